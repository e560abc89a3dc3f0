-- What an answer or a report makes of the ends of a process: one change at the end that it is about, and then what comes of that; and a whole step.
use Rattle.std.specs.Prelude.{◌≡◌, ◌⊎◌, Bool, ℕ, List, [], ◌∷◌, ◌++◌, Option, Some, Ok, Err, ⊤}
use Rattle.std.specs.Prelude as prelude
use Rattle.charlotte_calls.specs.declared.calls.Answer.{Answer}
use Rattle.charlotte_calls.specs.declared.calls.Answer.TheVariants as answer
use Rattle.charlotte_calls.specs.declared.calls.Cause.TheVariants.{Dead, Late}
use Rattle.charlotte_calls.specs.declared.calls.Report.{Report}
use Rattle.charlotte_calls.specs.declared.names.EndId.{EndId}
use Rattle.charlotte_calls.specs.declared.names.Outcome.TheVariants as outcomes
use Rattle.charlotte_calls.specs.declared.names.Way.TheVariants.{Inward, Outward}
use Rattle.lynx_packets.specs.declared.packet.RtPacket.{RtPacket}
use Rattle.lynx_packets.specs.Packets.{packet_of}
use Rattle.end_protocol.specs.declared.hearing.Heard.{Heard}
use Rattle.end_protocol.specs.declared.hearing.Heard.TheVariants as heard
use Rattle.end_protocol.specs.declared.kept.Kept.{Kept}
use Rattle.end_protocol.specs.Deeds.{heard_deeds}
use Rattle.end_protocol.specs.Falling.{dies}
use Rattle.end_protocol.specs.Going.{receive_over, returns}
use Rattle.end_protocol.specs.Happenings.{Happening, Sends, SendOver, Receives, ReceiveOver, CancelLate, after}
use Rattle.end_protocol.specs.Hearing.{hears}
use Rattle.process_run.specs.States.{Asked, DeedOn, Gone, Keeps, Place, State, deeds_on}
use Rattle.process_run.specs.States as process
use Rattle.process_run.specs.Ends.{held_of, number_of, place_at, with_holding}
use Rattle.process_run.specs.Runs.{Did}
use Rattle.process_changes.specs.Changes.{AreLeft, Changes, IsHeld}
use Rattle.process_changes.specs.Ledgers.{Ledger, brought, came_with, given_back, ledger}

-- ---- what is told of an end

-- to what a process asked, this is the answer
pub record Turn : Type 0 where
  pub asked : Asked
  pub given : Option Answer

-- an answer that is not about a report
abbrev pub IsTold : Turn → Asked → Answer → Type 0
IsTold t asked a = (t.asked ≡ asked) × (t.given ≡ Some a)

-- a report of a send or receive on this end
abbrev pub IsReport : Turn → Report → EndId → Type 0
IsReport t r x = IsTold t process.Wait (answer.Reported r) × (r.on ≡ x)

-- the bytes of a message that is reported on this end, and the ends that it encloses
pub record Brings (t : Turn) (x : EndId) (bytes : List ℕ) (xs : List EndId) : Type 0 where
  pub report : Report
  pub told : IsReport t report x
  pub way : report.way ≡ Inward
  pub outcome : report.outcome ≡ outcomes.Done
  pub bytes_are : report.bytes ≡ bytes
  pub ends_are : report.enclosed ≡ xs

-- the link is reported as dead on this end, for a send or for a receive
pub record Kills (t : Turn) (x : EndId) (h : Happening) : Type 0 where
  pub report : Report
  pub told : IsReport t report x
  pub outcome : report.outcome ≡ outcomes.Destroyed
  pub over : ((report.way ≡ Inward) × (h ≡ ReceiveOver)) ⊎ ((report.way ≡ Outward) × (h ≡ SendOver))

-- a send on this end is reported as done
pub record Finishes (t : Turn) (x : EndId) : Type 0 where
  pub report : Report
  pub told : IsReport t report x
  pub way : report.way ≡ Outward
  pub outcome : report.outcome ≡ outcomes.Done

-- an answer or report that brings no message and tells of no death, on the end of this number
abbrev pub IsAnswer : Turn → ℕ → EndId → Happening → Type 0
IsAnswer t n x Sends = IsTold t (process.Send n) answer.Ok
IsAnswer t n x SendOver = Finishes t x
IsAnswer t n x Receives = IsTold t (process.Receive n) answer.Ok
IsAnswer t n x ReceiveOver = IsTold t (process.Cancel n) answer.Ok
IsAnswer t n x CancelLate = IsTold t (process.Cancel n) (answer.Refused Late)
IsAnswer t n x _ = ⊥

-- an answer that tells of the death of the link
abbrev pub IsDeath : Turn → ℕ → Type 0
IsDeath t n = IsTold t (process.Send n) (answer.Refused Dead) ⊎ IsTold t (process.Receive n) (answer.Refused Dead)

-- with it a receive or send is over
abbrev pub IsDeathWith : Turn → ℕ → EndId → Happening → Type 0
IsDeathWith t n x h = (IsTold t (process.Cancel n) (answer.Refused Dead) × (h ≡ CancelLate)) ⊎ Kills t x h

-- the process does not hold the end that this is about, or is told nothing of an end
abbrev pub IsUnheld : ℕ → List Place → Type 0
IsUnheld n ps = held_of n (place_at n ps) ≡ prelude.None

abbrev pub IsSilent : Asked → Option Answer → List Place → Type 0
IsSilent (process.Send n) (Some answer.Ok) ps = IsUnheld n ps
IsSilent (process.Send n) (Some (answer.Refused Dead)) ps = IsUnheld n ps
IsSilent (process.Receive n) (Some answer.Ok) ps = IsUnheld n ps
IsSilent (process.Receive n) (Some (answer.Refused Dead)) ps = IsUnheld n ps
IsSilent (process.Cancel n) (Some answer.Ok) ps = IsUnheld n ps
IsSilent (process.Cancel n) (Some (answer.Refused Late)) ps = IsUnheld n ps
IsSilent (process.Cancel n) (Some (answer.Refused Dead)) ps = IsUnheld n ps
IsSilent process.Wait (Some (answer.Reported r)) ps = IsUnheld (number_of r.on ps) ps
IsSilent asked given ps = ⊤

-- what was heard can be read
abbrev pub IsReadable : Heard → Type 0
IsReadable (heard.Unreadable xs) = ⊥
IsReadable _ = ⊤

-- at one end at most. What comes with a message is in the hand, and so is what an end gives back that dies or is destroyed
pub data Telling (version : ℕ) (t : Turn) : Ledger → List DeedOn → Ledger → Type 0 where
  Silent : (b : Ledger) → IsSilent t.asked t.given b.places → Telling version t b [] b
  Answers : (n : ℕ) (x : EndId) (k : Kept) (h : Happening) (b : Ledger) → IsHeld n x k b.places → IsAnswer t n x h
      → Telling version t b [] (record b { places = with_holding n (Keeps (after version h k)) b.places })
  -- a receive is reported, which brings a packet with these ends that can be read
  Hears : (n : ℕ) (x : EndId) (k : Kept) (room : Bool) (bytes : List ℕ) (packet : RtPacket) (xs : List EndId) (b : Ledger) → IsHeld n x k b.places
      → Brings t x bytes xs → packet_of version bytes ≡ Ok packet → b.hand ≡ xs
      → IsReadable (hears version room packet xs (receive_over k)).1
      → Telling version t b (deeds_on x (heard_deeds (hears version room packet xs (receive_over k)).1))
      (record b {
        places = with_holding n (Keeps (hears version room packet xs (receive_over k)).0) b.places;
        hand = came_with (hears version room packet xs (receive_over k)).1;
      })
  -- it brings bytes that spell no packet, to a dead end; or what it brings can't be read, and the end is destroyed
  Ignores : (n : ℕ) (x : EndId) (k : Kept) (bytes : List ℕ) (left : ℕ) (xs : List EndId) (b : Ledger) → IsHeld n x k b.places
      → Brings t x bytes xs → packet_of version bytes ≡ Err left
      → Telling version t b [] (record b { places = with_holding n (Keeps (receive_over k)) b.places })
  Breaks : (n : ℕ) (x : EndId) (k : Kept) (bytes : List ℕ) (xs : List EndId) (b : Ledger) → IsHeld n x k b.places
      → Brings t x bytes xs
      → Telling version t b []
      (record {
        places = with_holding n (Gone (returns k.sending)) (with_holding n (Keeps (receive_over k)) b.places);
        doomed = b.doomed ++ x ∷ [];
        hand = given_back (receive_over k) ++ b.hand;
      })
  -- the link is dead
  Dies : (n : ℕ) (x : EndId) (k : Kept) (b : Ledger) → IsHeld n x k b.places → IsDeath t n
      → Telling version t b [] (record b { places = with_holding n (Keeps (dies k)) b.places; hand = given_back k ++ b.hand })
  DiesWith : (n : ℕ) (x : EndId) (k : Kept) (h : Happening) (b : Ledger) → IsHeld n x k b.places → IsDeathWith t n x h
      → Telling version t b []
      (record b { places = with_holding n (Keeps (dies (after version h k))) b.places; hand = given_back (after version h k) ++ b.hand })

-- ---- a step

-- First what its answer tells, with what that brings in the hand, and then what comes of it and what its threads do
pub record ChangesByStep (s : State) (given : Option Answer) (d : Did) : Type 0 where
  pub told : Ledger
  pub told_deeds : List DeedOn
  pub telling : Telling s.version (record { asked = s.asked; given = given }) (ledger s (brought given)) told_deeds told
  pub last : Ledger
  pub deeds : List DeedOn
  pub changes : Changes s.version told deeds last
  pub all : d.deeds ≡ told_deeds ++ deeds
  pub places : last.places ≡ d.state.places
  pub left : AreLeft d.next last.doomed d.state.doomed
  pub version : d.state.version ≡ s.version
