-- A back without ends meets its send: that is over at its kernel and in the service.
use Rattle.std.specs.Prelude.{◌≡◌, ℕ, ◌≤◌, ◌↔◌, false, [], Some, length}
use Rattle.charlotte_calls.specs.declared.names.EndId.{EndId}
use Rattle.charlotte_calls.specs.declared.names.Pid.{Pid}
use Rattle.charlotte_packets.specs.declared.picture.Picture.{Picture}
use Rattle.charlotte_packets.specs.declared.picture.PictureWhat.TheVariants as packet
use Rattle.end_table.specs.Place.{end_eq}
use Rattle.end_table.specs.declared.entry.Entry.TheVariants as entry
use Rattle.end_table.specs.declared.entry.HereView.{HereView}
use Rattle.end_table.specs.declared.entry.Outward.TheVariants as kernel_outward
use Rattle.kernel_effects.specs.Effect.{puts, stays}
use Rattle.service_step.specs.State.{Process, State}
use Rattle.service_step.specs.declared.state.End.{End}
use Rattle.service_step.specs.declared.state.Outward.TheVariants as outward
use Rattle.service_step.specs.declared.state.Phase.TheVariants as phase
use Rattle.theorem_take_want.specs.Change.{Change}
use Rattle.theorem_meaning.specs.Invariant.{AreRight}
use Rattle.theorem_meaning.specs.Packets.{Links}
use Rattle.theorem_meaning.specs.StandsFor.{AreLinksOf}

-- the back of the message n of this end
abbrev pub bare_back : ℕ → EndId → ℕ → Picture
bare_back stamp to n = record { stamp = stamp; what = packet.Back to n [] }

-- the view of an end whose send is over
abbrev pub over_view : HereView → HereView
over_view o = record o { outward = kernel_outward.Unreported }

-- the part of an event that takes the back, and sends nothing
abbrev pub taking_back : Change → EndId → HereView → Change
taking_back c to o = record c { entry = puts to (entry.Here (over_view o)) stays; packets = [] }

-- an event takes it where its end, whose view is o, is here, with that send matched; all is true of the links that is true after i events
pub record IsTakingBack (i : ℕ) (w : Links) (c : Change) (from stamp : ℕ) (s : State) (to : EndId) (n : ℕ) (o : HereView) : Type 0 where
  pub taken : c.taken ≡ Some (from, bare_back stamp to n)
  pub right : AreRight i w s
  pub links : AreLinksOf w s
  pub few : length s.made ≤ 8
  pub here : w.entry c.kernel to ≡ entry.Here o
  pub waits : o.outward ≡ kernel_outward.Matched n

-- the ends and the processes of the service then: the send is over
pub record IsReturned (s : State) (to : EndId) (t : EndId → End) (g : ℕ → Process) : Type 0 where
  pub at : t to ≡ record (s.ends to) { outward = outward.Unreported }
  pub others : (e : EndId) → end_eq to e ≡ false → t e ≡ s.ends e
  pub phases : (b : Pid) (e : EndId) → ((g b.0).phase ≡ phase.Cancelling e) ↔ ((s.process b.0).phase ≡ phase.Cancelling e)
