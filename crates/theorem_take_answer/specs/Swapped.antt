-- An answer to an end is replaced by the mere news that came with it, and what the answer is about is over.
use Rattle.std.specs.Prelude.{◌≡◌, ℕ, ◌≤◌, nat_eq, if◌then◌else◌, ◌⊎◌, ◌↔◌, ◌++◌, true, false, Some}
use Rattle.charlotte_calls.specs.declared.names.EndId.{EndId}
use Rattle.charlotte_calls.specs.declared.names.Pid.{Pid}
use Rattle.charlotte_packets.specs.declared.picture.Picture.{Picture}
use Rattle.charlotte_packets.specs.declared.picture.PictureWhat.{PictureWhat}
use Rattle.charlotte_packets.specs.declared.picture.PictureWhat.TheVariants as packet
use Rattle.end_table.specs.Table.{IsHereAnd}
use Rattle.end_table.specs.declared.entry.Entry.{Entry}
use Rattle.end_table.specs.declared.entry.Entry.TheVariants as entry
use Rattle.end_table.specs.declared.entry.HereView.{HereView}
use Rattle.end_table.specs.declared.entry.Inward.TheVariants as kernel_inward
use Rattle.kernel_step.specs.Actions.{is_withdrawing}
use Rattle.service_lawful.specs.Consistent.{is_open}
use Rattle.service_step.specs.Ends.{is_living, is_posted, is_taken, matched_message}
use Rattle.service_step.specs.State.{State, Process}
use Rattle.service_step.specs.declared.state.End.{End}
use Rattle.service_step.specs.declared.state.Message.{Message}
use Rattle.service_step.specs.declared.state.Outward.TheVariants as outward
use Rattle.service_step.specs.declared.state.Phase.TheVariants as phase
use Rattle.service_step.specs.declared.state.Place.TheVariants as place
use Rattle.theorem_take_silent.specs.Change.{Change, Changes, taken_at}
use Rattle.theorem_meaning.specs.Fields.{IsAskedAs}
use Rattle.theorem_meaning.specs.Invariant.{is_taken_of}
use Rattle.theorem_meaning.specs.Packets.{IsParcelFor, IsTakenOf, IsUnderWay, IsUnwantedOf, Links, how_many, one_if}
use Rattle.theorem_meaning.specs.StandsFor.{IsEndOf, IsWaitingWith, home_of}

-- a packet answers end t: its message was taken, or its receive was withdrawn, by its opposite at kernel j with h hops
abbrev pub IsAnswer : EndId → ℕ → ℕ → PictureWhat → Type 0
IsAnswer t j h (packet.Taken to n at hops) = (to ≡ t) × (at ≡ j) × (hops ≡ h)
IsAnswer t j h (packet.Unwanted to n at hops) = (to ≡ t) × (at ≡ j) × (hops ≡ h)
IsAnswer t j h _ = ⊥

-- the mere news that comes with it
abbrev pub news : EndId → ℕ → ℕ → Picture → Picture
news t j h q = record { stamp = q.stamp; what = packet.Moved t j h }

-- an event that takes a packet takes this one instead
abbrev pub instead : Change → ℕ → Picture → Change
instead c from q = record c { taken = Some (from, q) }

-- the links before an event, with this packet instead of the one that it takes, and with these entries at its kernel
abbrev pub swapped : {w v : Links} {c : Change} → Changes w c v → ℕ → Picture → (EndId → Entry) → Links
swapped {w} {v} {c} b from q y =
    record {
      entry = λ j e. if nat_eq j c.kernel then y e else w.entry j e;
      packets = λ i j. taken_at (instead c from q) i j ++ b.left i j;
    }

-- what is kept of an end that is here stays but for its activities; its receive stays or is over, and no send starts or ends its waiting
pub record IsViewSettled (v x : HereView) : Type 0 where
  pub view : x ≡ record v { outward = x.outward; inward = x.inward }
  pub inward : (x.inward ≡ v.inward) ⊎ (x.inward ≡ kernel_inward.Idle)
  pub waiting : (n : ℕ) → IsWaitingWith n x.outward ↔ IsWaitingWith n v.outward

-- an entry stays, or is of an end that is here and settles
pub data IsSettled (y z : Entry) : Type 0 where
  Same : z ≡ y → IsSettled y z
  Turned : (v x : HereView) → y ≡ entry.Here v → z ≡ entry.Here x → IsViewSettled v x → IsSettled y z

-- what is needed of the entries of x, and of the ends t and processes g of the service, that were those of w and s
pub record IsAnswered (w x : Links) (s : State) (t : EndId → End) (g : ℕ → Process) : Type 0 where
  pub entries : (j : ℕ) (e : EndId) → IsSettled (w.entry j e) (x.entry j e)
  -- ends stay but for their activities
  pub places : (e : EndId) → (t e).place ≡ (s.ends e).place
  pub sent : (e : EndId) → (t e).sent ≡ (s.ends e).sent
  pub noticed : (e : EndId) → (t e).noticed ≡ (s.ends e).noticed
  -- receives that are posted, and messages that are matched, are those that were
  pub posted : (e : EndId) → is_posted (t e).inward ≡ is_posted (s.ends e).inward
  pub message : (e : EndId) → matched_message (t e).outward ≡ matched_message (s.ends e).outward
  pub matched : (e : EndId) (m : Message) → (s.ends e).outward ≡ outward.Matched m → (t e).outward ≡ outward.Matched m
  -- other answers and parcels meet what they met
  pub takens : (f : EndId) (n : ℕ) → IsUnderWay x (IsTakenOf f n) → (s.ends f).outward ≡ outward.Taken → (t f).outward ≡ outward.Taken
  pub voids : (j : ℕ) (e : EndId) (n : ℕ) → IsUnderWay x (IsUnwantedOf e n) → (s.ends e).noticed ≡ false
      → IsHereAnd (w.entry j e) (λ v. v.inward ≡ kernel_inward.Withdrawing n)
      → IsHereAnd (x.entry j e) (λ v. v.inward ≡ kernel_inward.Withdrawing n)
  pub meets : (j : ℕ) (e : EndId) (r n : ℕ) → IsUnderWay x (IsParcelFor e r n) → is_open (s.ends e) ≡ true
      → IsHereAnd (w.entry j e) (λ v. IsAskedAs r v.inward) → IsHereAnd (x.entry j e) (λ v. IsAskedAs r v.inward)
  -- receives that are withdrawn, and the Cancels of them
  pub withdrawing : (j : ℕ) (e : EndId) → is_posted (s.ends e).inward ≡ true → IsHereAnd (w.entry j e) (λ v. is_withdrawing v.inward ≡ true)
      → IsHereAnd (x.entry j e) (λ v. is_withdrawing v.inward ≡ true)
  pub cancelled : (p : Pid) (j : ℕ) (e : EndId) (v : HereView) (n : ℕ) → x.entry j e ≡ entry.Here v → v.inward ≡ kernel_inward.Withdrawing n
      → (s.process p.0).phase ≡ phase.Cancelling e → (g p.0).phase ≡ phase.Cancelling e
  pub cancelling : (p : Pid) (e : EndId) → (g p.0).phase ≡ phase.Cancelling e
      → IsHereAnd (x.entry (home_of s p) e) (λ v. is_withdrawing v.inward ≡ true)
  -- how many takens there are
  pub taken : (e : EndId) → how_many (is_taken_of e) x ≤ one_if (is_taken (t e).outward)
  pub told : (e : EndId) → is_living (t e).place ≡ true → how_many (is_taken_of e) x ≡ one_if (is_taken (t e).outward)
  -- activities agree
  pub agree : (e : EndId) (p : Pid) (v : HereView) → (t e).place ≡ place.Owned p → x.entry (home_of s p) e ≡ entry.Here v
      → IsEndOf x e v (t e)
