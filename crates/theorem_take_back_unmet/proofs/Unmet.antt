-- A back that meets no send is addressed to an end that is destroyed, since a sender that lives has its message matched where the back goes.
use Rattle.std.proofs.Common.{◌≡◌, ℕ, true, false, ◌&&◌, if◌then◌else◌, List, ◌∷◌, None, Some, refl, sym, ap, subst, ◌∙◌, true≢false, eq-eqb}
use Rattle.charlotte_calls.specs.declared.names.EndId.{EndId}
use Rattle.charlotte_packets.specs.declared.picture.MovingPicture.{MovingPicture}
use Rattle.charlotte_packets.specs.declared.picture.Picture.{Picture}
use Rattle.charlotte_packets.specs.declared.picture.PictureWhat.TheVariants as packet
use Rattle.end_table.specs.declared.entry.Entry.TheVariants as entry
use Rattle.end_table.specs.declared.entry.HereView.{HereView}
use Rattle.end_table.specs.declared.entry.Outward.{Outward as KernelOutward}
use Rattle.end_table.specs.declared.entry.Outward.TheVariants as kernel_outward
use Rattle.kernel_step.specs.Rows.{awaits, ends_in, is_matched}
use Rattle.kernel_world.specs.World.{World, Takes}
use Rattle.service_step.specs.Ends.{is_idle, is_idle_inward, is_idle_outward, is_living}
use Rattle.service_step.specs.State.{State}
use Rattle.service_step.specs.declared.state.Message.{Message}
use Rattle.service_step.specs.declared.state.Outward.TheVariants as outward
use Rattle.service_step.specs.declared.state.Place.{Place}
use Rattle.service_step.specs.declared.state.Place.TheVariants as place
use Rattle.theorem_meaning.proofs.Goes.{Goes}
use Rattle.theorem_meaning.specs.Invariant.{Invariant, IsBackRight}
use Rattle.theorem_meaning.specs.Packets.{Links, links_of}
use Rattle.theorem_meaning.specs.StandsFor.{IsOutwardOf, home_of}
use Rattle.theorem_take_answer.proofs.Meets.{IsOwnedAt, owned-at, right-first, same-kernel}
use Rattle.theorem_ends_destroyed.proofs.Facts.{not-true}
use Rattle.theorem_meaning.proofs.Plain.{there-here}
use Rattle.theorem_take_back_unmet.proofs.Dropped.{back-dropped-goes}

-- a kernel has a send as matched whose message the service has matched
matched-of : (w : Links) (e : EndId) (n : ℕ) (o : KernelOutward) (m : Message) → IsOutwardOf w e n o (outward.Matched m) → o ≡ kernel_outward.Matched n
matched-of w e n (kernel_outward.Matched r) m is = ap kernel_outward.Matched is.0
matched-of w e n _ m is = absurd is

module _ (i : ℕ) (w : World) (s : State) (is : Invariant i w s) (k from stamp : ℕ) (f : EndId) (n : ℕ) (ms : List MovingPicture) (others : List Picture) (there : w.packets from k ≡ record { stamp = stamp; what = packet.Back f n ms } ∷ others) where
  right : IsBackRight (links_of w) s.ends k f n (ends_in ms)
  right = right-first is k from (record { stamp = stamp; what = packet.Back f n ms }) others there

  -- a sender that lives awaits its message
  pub back-meets : is_living (s.ends f).place ≡ true → (v : HereView) × (awaits n ((w.kernel k).table f) ≡ Some v)
  back-meets lives = by (s.ends f).place refl
    where
      view : (v : HereView) × ((w.kernel k).table f ≡ entry.Here v) × Unit {0}
      view = there-here ((w.kernel k).table f) (λ v. Unit {0}) (right.site lives)

      found : IsOwnedAt w s k f → (v : HereView) × (awaits n ((w.kernel k).table f) ≡ Some v)
      found o =
          let sends : o.view.outward ≡ kernel_outward.Matched n
          = matched-of (links_of w) f (s.ends f).sent o.view.outward right.matched.message (subst (IsOutwardOf (links_of w) f (s.ends f).sent o.view.outward) right.matched.matched o.agree.outward)
          ∙ ap kernel_outward.Matched right.matched.number in
          (o.view, ap (awaits n) o.here ∙ ap (λ x. if is_matched n x then Some o.view else None) sends ∙ ap (λ b. if b then Some o.view else None) (eq-eqb n n refl))

      by : (x : Place) → (s.ends f).place ≡ x → (v : HereView) × (awaits n ((w.kernel k).table f) ≡ Some v)
      by (place.Owned p) owned = found (same-kernel is (home_of s p) k f view.0 (owned-at is f p owned) view.1)
      by (place.InMessage g m) within =
          let busy : is_idle (s.ends f) ≡ false = ap (λ z. is_idle_outward z && is_idle_inward (s.ends f).inward) right.matched.matched in
          absurd (true≢false (sym (is.service.kept.resting f g m within) ∙ busy))
      by place.Destroyed gone = absurd (true≢false (sym lives ∙ ap (λ z. is_living z) gone))
      by place.Unmade gone = absurd (true≢false (sym lives ∙ ap (λ z. is_living z) gone))

  -- the service goes with the taking of a back that meets no send, by the step back
  pub back-unmet-goes : awaits n ((w.kernel k).table f) ≡ None → Goes i w s (Takes k from)
  back-unmet-goes none = back-dropped-goes i w s is k from stamp f n ms others there (not-true (is_living (s.ends f).place) (λ lives. differ (back-meets lives).0 (sym none ∙ (back-meets lives).1)))
    where
      differ : (v : HereView) → None ≡ Some v → ⊥
      differ v same = cc
