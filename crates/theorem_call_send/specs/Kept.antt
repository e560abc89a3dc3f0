-- What stays where a send begins or is taken back: all but who holds ends,
-- how a send goes that is not matched, and how many sends there were.
use Rattle.std.specs.Prelude.{◌≡◌, ℕ, true, length}
use Rattle.charlotte_calls.specs.declared.names.EndId.{EndId}
use Rattle.charlotte_calls.specs.declared.names.Pid.{Pid}
use Rattle.charlotte_packets.specs.declared.picture.MovingPicture.{MovingPicture}
use Rattle.end_table.specs.declared.entry.Entry.{Entry}
use Rattle.end_table.specs.declared.entry.Entry.TheVariants as entry
use Rattle.end_table.specs.declared.entry.HereView.{HereView}
use Rattle.end_table.specs.declared.entry.Holder.TheVariants as holder
use Rattle.end_table.specs.declared.entry.Inward.TheVariants as kernel_inward
use Rattle.service_step.specs.Ends.{is_living, is_made, is_taken, matched_message}
use Rattle.service_step.specs.State.{State}
use Rattle.service_step.specs.declared.state.End.{End}
use Rattle.service_step.specs.declared.state.Message.{Message}
use Rattle.service_step.specs.declared.state.Outward.TheVariants as outward
use Rattle.theorem_meaning.specs.Fields.{Stand, HasFields}
use Rattle.theorem_meaning.specs.Packets.{Links}
use Rattle.theorem_meaning.specs.StandsFor.{entry_at}

-- a value stays but for the count of sends
abbrev pub IsValueKept : MovingPicture → MovingPicture → Type 0
IsValueKept m l = l ≡ record m { sent = l.sent }

-- of the view of an end that is here, its value and its receive stay so
pub record IsViewKept (v u : HereView) : Type 0 where
  pub value : IsValueKept v.value u.value
  pub inward : u.inward ≡ v.inward

-- of an entry: what it is, and what is said of such a view
abbrev pub IsEntryKept : Entry → Entry → Type 0
IsEntryKept entry.Nothing entry.Nothing = Unit {0}
IsEntryKept (entry.Here v) (entry.Here u) = IsViewKept v u
IsEntryKept (entry.Left to hops) (entry.Left there more) = there ≡ to
IsEntryKept (entry.Destroyed m) (entry.Destroyed l) = l ≡ m
IsEntryKept _ _ = ⊥

-- of an end in the service: whether it is made and lives, its receive and its mark, and a send that was matched
pub record IsEndKept (x y : End) : Type 0 where
  pub made : is_made y.place ≡ is_made x.place
  pub living : is_living y.place ≡ is_living x.place
  pub inward : y.inward ≡ x.inward
  pub noticed : y.noticed ≡ x.noticed
  pub matched : (m : Message) → x.outward ≡ outward.Matched m → (y.outward ≡ x.outward) × (y.sent ≡ x.sent)
  pub taken : x.outward ≡ outward.Taken → (y.outward ≡ x.outward) × (y.sent ≡ x.sent)
  -- and no other send is
  pub message : matched_message y.outward ≡ matched_message x.outward
  pub takes : is_taken y.outward ≡ is_taken x.outward

-- links, and the state of the service, of which so much stays
pub record AreLinksKept (w u : Links) (s t : State) : Type 0 where
  pub entries : (k : ℕ) (e : EndId) → IsEntryKept (entry_at w k e) (entry_at u k e)
  pub packets : (from to : ℕ) → u.packets from to ≡ w.packets from to
  pub ends : (e : EndId) → IsEndKept (s.ends e) (t.ends e)
  pub process : (p : ℕ) → t.process p ≡ s.process p
  pub homes : t.homes ≡ s.homes
  pub kernels : length t.made ≡ length s.made
  -- the owner of an end whose receive is withdrawn owned it before
  pub owners : (k : ℕ) (e : EndId) (v y : HereView) (n : ℕ) (p : Pid) → entry_at w k e ≡ entry.Here v → entry_at u k e ≡ entry.Here y
      → y.inward ≡ kernel_inward.Withdrawing n
      → y.holder ≡ holder.Owner p → v.holder ≡ holder.Owner p
  -- counts of sends are the service's
  pub sent : (e : EndId) (at : Stand) (m : MovingPicture) → is_living (t.ends e).place ≡ true → HasFields u e at m
      → m.sent ≡ (t.ends e).sent
