-- Calls on an end, their answers and their reports keep what holds of it.
use Rattle.std.proofs.Common.{◌≡◌, ℕ, Bool, true, false, [], ◌∷◌, Option, Some, None, if◌then◌else◌, refl}
use Rattle.std.specs.Prelude.{IfSome}
use Rattle.charlotte_calls.specs.Ranges.{IsU32}
use Rattle.lynx_packets.specs.declared.packet.RtPacket.TheVariants as packets
use Rattle.machine_turns.specs.Turns.{Turns}
use Rattle.end_protocol.specs.declared.kept.Forbade.{Forbade}
use Rattle.end_protocol.specs.declared.kept.Kept.{Kept}
use Rattle.end_protocol.specs.declared.kept.Receiving.{Receiving}
use Rattle.end_protocol.specs.declared.kept.Receiving.TheVariants as receiving
use Rattle.end_protocol.specs.declared.kept.Sending.{Sending}
use Rattle.end_protocol.specs.declared.kept.Sending.TheVariants as sending
use Rattle.end_protocol.specs.declared.messages.Message.{Message}
use Rattle.end_protocol.specs.Going.{allows, cancel_late, is_allow_due, receive_over, receives, send_over, sent, settled, settled_with}
use Rattle.process_run.specs.States.{Module}
use Rattle.process_sound.specs.Packets.{MaySend}
use Rattle.process_sound.specs.Ends.{AreWaiting, IsKept, waiting}
use Rattle.process_sound.proofs.Asking.{waits_as}
use Rattle.process_sound.proofs.Every.{every_append, every_tail}
use Rattle.process_sound.proofs.Sends.{allow_sends}

module _ (version : ℕ) (m : Module) (t : Turns) where
  -- what holds of the one holds of the other, and the same threads wait
  pub record Keeps (k j : Kept) : Type 0 where
    pub kept : IsKept version m k → IsKept version m j
    pub waits : AreWaiting m t k → AreWaiting m t j
    pub same : waiting j ≡ waiting k

  -- only what is started is another
  pub started : (s : Sending) (r : Receiving) (k : Kept) → Keeps k (record k { sending = s; receiving = r })
  started s r k = record {
    kept = λ kept. record {
      queue = kept.queue;
      last = kept.last;
      outstanding = kept.outstanding;
      behind = kept.behind;
      owed = kept.owed;
      forbade = kept.forbade;
      request = kept.request;
      reply = kept.reply;
      bindings = kept.bindings;
    };
    waits = λ are. waits_as m t k (record k { sending = s; receiving = r }) refl refl refl are;
    same = refl;
  }

  pub send_over_keeps : (k : Kept) → Keeps k (send_over k)
  send_over_keeps k = started sending.Idle k.receiving k

  pub receives_keeps : (k : Kept) → Keeps k (receives k)
  receives_keeps k = started k.sending receiving.Started k

  pub receive_over_keeps : (k : Kept) → Keeps k (receive_over k)
  receive_over_keeps k = started k.sending receiving.Idle k

  pub cancel_late_keeps : (k : Kept) → Keeps k (cancel_late k)
  cancel_late_keeps k = started k.sending receiving.Late k

  pub sent_keeps : (k : Kept) → Keeps k (sent k)
  unfolding sent
  sent_keeps k = record {
    kept = λ kept. record {
      queue = every_tail (λ (message : Message). MaySend version message.packet) k.queue kept.queue;
      last = kept.last;
      outstanding = kept.outstanding;
      behind = kept.behind;
      owed = kept.owed;
      forbade = kept.forbade;
      request = kept.request;
      reply = kept.reply;
      bindings = kept.bindings;
    };
    waits = λ are. waits_as m t k (sent k) refl refl refl are;
    same = refl;
  }

  allows_kept : (number : ℕ) (k : Kept) → IsU32 number → IsKept version m k → IsKept version m (allows number k)
  unfolding allows
  allows_kept number k fits kept = record {
    queue = every_append (λ (message : Message). MaySend version message.packet) k.queue (record { packet = packets.Allow number; ends = [] } ∷ []) kept.queue (allow_sends version number fits, tt);
    last = kept.last;
    outstanding = kept.outstanding;
    behind = kept.behind;
    owed = kept.owed;
    forbade = tt;
    request = kept.request;
    reply = kept.reply;
    bindings = kept.bindings;
  }

  allows_waiting : (number : ℕ) (k : Kept) → AreWaiting m t k → AreWaiting m t (allows number k)
  unfolding allows
  allows_waiting number k are = waits_as m t k (allows number k) refl refl refl are

  allows_waits : (number : ℕ) (k : Kept) → waiting (allows number k) ≡ waiting k
  unfolding allows
  allows_waits number k = refl

  forbade_keeps : (o : Option Forbade) (room : Bool) (k : Kept) → (IsKept version m k → IfSome o (λ f. IsU32 f.number)) → Keeps k (settled_with o room k)
  forbade_keeps None room k fits = record { kept = λ kept. kept; waits = λ are. are; same = refl }
  forbade_keeps (Some f) room k fits = by_due (is_allow_due room f k)
    where
      by_due : (b : Bool) → Keeps k (if b then allows f.number k else k)
      by_due true = record { kept = λ kept. allows_kept f.number k (fits kept) kept; waits = allows_waiting f.number k; same = allows_waits f.number k }
      by_due false = record { kept = λ kept. kept; waits = λ are. are; same = refl }

  pub settled_keeps : (room : Bool) (k : Kept) → Keeps k (settled room k)
  settled_keeps room k = forbade_keeps k.forbade room k (λ kept. kept.forbade)
