-- An end hears where its opposite is, and its live packets go there.
use Rattle.std.specs.Prelude.{◌≡◌, ℕ, ◌<◌, ◌⊎◌, true, false, Some}
use Rattle.charlotte_calls.specs.Names.{opposite}
use Rattle.charlotte_calls.specs.declared.names.EndId.{EndId}
use Rattle.charlotte_packets.specs.declared.picture.MovingPicture.{MovingPicture}
use Rattle.charlotte_packets.specs.declared.picture.PictureWhat.{PictureWhat}
use Rattle.charlotte_packets.specs.declared.picture.PictureWhat.TheVariants as packet
use Rattle.end_table.specs.declared.entry.Entry.TheVariants as entry
use Rattle.end_table.specs.declared.entry.HereView.{HereView}
use Rattle.kernel_step.specs.Actions.{is_withdrawing}
use Rattle.theorem_effects.specs.Change.{Change}
use Rattle.theorem_effects.specs.Sums.{AllSent}
use Rattle.theorem_effects.specs.Under.{IsTaken}
use Rattle.theorem_effects.specs.Fields.{IsAskedAs, IsNews, value_of}
use Rattle.theorem_effects.specs.Packets.{Links}
use Rattle.theorem_take_silent.specs.Quiet.{tells_place}

-- a packet that says of an end that is at kernel k, with this view, what is true of it
abbrev pub IsLive : ℕ → HereView → PictureWhat → Type 0
IsLive k v (packet.Want to w at hops) = (to ≡ opposite v.value.end) × (at ≡ k) × (hops ≡ v.value.hops) × IsAskedAs w v.inward
IsLive k v (packet.Unwant to w at hops) =
    (to ≡ opposite v.value.end) × (at ≡ k) × (hops ≡ v.value.hops) × IsAskedAs w v.inward × (is_withdrawing v.inward ≡ true)
IsLive k v (packet.Moved to at hops) = (to ≡ opposite v.value.end) × (at ≡ k) × (hops ≡ v.value.hops)
IsLive k v what = tells_place what ≡ false

-- an event after which hints are as before, or higher by what the packet told that was taken, and all that it says of where an end
-- is, and what that asks for, is said of one end and true of it
pub record IsLearning (w : Links) (c : Change) : Type 0 where
  pub view : HereView
  pub here : w.entry c.kernel view.value.end ≡ entry.Here view
  pub hints : (e : EndId) (m l : MovingPicture) → value_of (w.entry c.kernel e) ≡ Some m
      → value_of (c.entry e (w.entry c.kernel e)) ≡ Some l
      → (l.hint ≡ m.hint) ⊎ (IsTaken c (IsNews e l.hint.0 l.hint.1) × (m.hint.1 < l.hint.1))
  pub sent : AllSent (λ to what. IsLive c.kernel view what) c.packets
