-- An event in which ends are destroyed: what it changes of entries, packets and the ends of the service.
use Rattle.std.specs.Prelude.{◌≡◌, ℕ, ◌+◌, Bool, true, false, if◌then◌else◌, ◌⊎◌, ◌↔◌, IfSome}
use Rattle.std.specs.List.{list_any}
use Rattle.charlotte_calls.specs.Names.{opposite}
use Rattle.charlotte_calls.specs.declared.names.EndId.{EndId}
use Rattle.charlotte_calls.specs.declared.names.Pid.{Pid}
use Rattle.charlotte_packets.specs.declared.picture.MovingPicture.{MovingPicture}
use Rattle.charlotte_packets.specs.declared.picture.PictureWhat.{PictureWhat}
use Rattle.charlotte_packets.specs.declared.picture.PictureWhat.TheVariants as packet
use Rattle.end_table.specs.Entries.{ended_entry}
use Rattle.end_table.specs.Place.{end_eq}
use Rattle.end_table.specs.Table.{IsHereAnd}
use Rattle.kernel_step.specs.Actions.{is_withdrawing}
use Rattle.kernel_step.specs.Rows.{ends_in, is_here}
use Rattle.service_step.specs.Ends.{is_living}
use Rattle.service_step.specs.State.{State, Process}
use Rattle.service_step.specs.declared.state.End.{End}
use Rattle.service_step.specs.declared.state.Message.{Message}
use Rattle.service_step.specs.declared.state.Outward.TheVariants as outward
use Rattle.service_step.specs.declared.state.Phase.TheVariants as phase
use Rattle.service_step.specs.declared.state.Place.TheVariants as place
use Rattle.theorem_take_silent.specs.Aside.{IsKept}
use Rattle.theorem_take_silent.specs.Change.{Change}
use Rattle.theorem_take_silent.specs.Sums.{AllSent, sum_taken}
use Rattle.theorem_meaning.specs.Fields.{Stand, At, Flying, HasFields}
use Rattle.theorem_meaning.specs.Invariant.{is_message_of}
use Rattle.theorem_meaning.specs.Packets.{Links, one_if, values_for, values_of}
use Rattle.theorem_meaning.specs.StandsFor.{IsEnclosed, entry_at}

-- a packet tells the opposite of one of these ends that it is destroyed
abbrev pub IsToldOf : (EndId → Bool) → PictureWhat → Type 0
IsToldOf ended (packet.Gone to at) = ended (opposite to) ≡ true
IsToldOf ended _ = ⊥

-- a packet brings a message back that carries no other ends than these
abbrev pub IsReturnOf : (EndId → Bool) → PictureWhat → Type 0
IsReturnOf ended (packet.Back to n ms) = (e : EndId) → ended e ≡ false → list_any (end_eq e) (ends_in ms) ≡ false
IsReturnOf ended _ = ⊥

-- an end that is destroyed was here, or came with the packet that is taken, and leaves its mark
pub record IsEnded (w : Links) (c : Change) (e : EndId) : Type 0 where
  pub stand : Stand
  pub fields : MovingPicture
  pub had : HasFields w e stand fields
  pub at : (stand ≡ At c.kernel) ⊎ (stand ≡ Flying)
  pub now : c.entry e (w.entry c.kernel e) ≡ ended_entry fields
  pub stood : one_if (is_here (w.entry c.kernel e)) + sum_taken (λ q. values_for e (values_of q)) c.taken ≡ 1

-- what became of the send of an end: x before and y afterwards; n packets with its message are taken
pub data IsSendAfter (x y : End) (n : ℕ) : Type 0 where
  Kept : y.outward ≡ x.outward → n ≡ 0 → IsSendAfter x y n
  -- it waited, and its message is dropped with the end
  Dropped : (m : Message) → x.outward ≡ outward.Waiting m → y.outward ≡ outward.Idle → is_living y.place ≡ false → n ≡ 0 → IsSendAfter x y n
  -- its message comes back to the end, which is destroyed
  Returned : (m : Message) → x.outward ≡ outward.Matched m → y.outward ≡ outward.Idle → is_living y.place ≡ false → n ≡ 1
      → IsSendAfter x y n

-- an event in which the ends are destroyed of which `ended` is true; t and g are the ends and processes of the service afterwards
pub record IsEnding (ended : EndId → Bool) (w : Links) (c : Change) (s : State) (t : EndId → End) (g : ℕ → Process) : Type 0 where
  pub are : (e : EndId) → ended e ≡ true → IsEnded w c e
  pub others : (e : EndId) → ended e ≡ false → IsKept w c e
  pub taken : IfSome c.taken (λ t. IsReturnOf ended t.1.what)
  pub sent : AllSent (λ to what. IsToldOf ended what) c.packets
  -- the ends of the service
  pub place : (e : EndId) → (t e).place ≡ (if ended e then place.Destroyed else (s.ends e).place)
  pub rest : (e : EndId) → t e ≡ record (s.ends e) { place = (t e).place; outward = (t e).outward }
  pub send : (e : EndId) → IsSendAfter (s.ends e) (t e) (sum_taken (λ q. one_if (is_message_of e q)) c.taken)
  -- as many processes are in a Cancel
  pub cancelling : (p : Pid) (e : EndId) → ((g p.0).phase ≡ phase.Cancelling e) ↔ ((s.process p.0).phase ≡ phase.Cancelling e)
  -- what a message encloses that waits is destroyed with its end, and no receive of them is being withdrawn
  pub enclosed : (e f : EndId) (n : ℕ) → ended f ≡ true → IsEnclosed w e f n → ended e ≡ true
  pub calm : (e : EndId) (k : ℕ) → ended e ≡ true → IsHereAnd (entry_at w k e) (λ v. is_withdrawing v.inward ≡ true) → ⊥
