-- The service goes with the taking of each answer.
use Rattle.std.proofs.Common.{◌≡◌, ◌⊎◌, inl, inr, ℕ, Bool, true, false, nat_eq, List, ◌∷◌, length, Option, None, Some, refl, sym, ap, ◌∙◌, true≢false, eqb-true, eq-eqb}
use Rattle.charlotte_calls.specs.declared.names.EndId.{EndId}
use Rattle.charlotte_packets.specs.declared.picture.Picture.{Picture}
use Rattle.charlotte_packets.specs.declared.picture.PictureWhat.TheVariants as packet
use Rattle.end_table.specs.Table.{IsHereAnd}
use Rattle.end_table.specs.declared.entry.Entry.{Entry}
use Rattle.end_table.specs.declared.entry.Entry.TheVariants as entry
use Rattle.end_table.specs.declared.entry.HereView.{HereView}
use Rattle.end_table.specs.declared.entry.Inward.{Inward}
use Rattle.end_table.specs.declared.entry.Inward.TheVariants as inward
use Rattle.kernel_sound.proofs.Parcels.{awaits-here}
use Rattle.kernel_step.specs.Rows.{awaits}
use Rattle.theorem_meaning.specs.World.{World, Takes}
use Rattle.service_step.specs.Ends.{is_living}
use Rattle.service_step.specs.State.{State}
use Rattle.theorem_meaning.proofs.Goes.{Goes}
use Rattle.theorem_meaning.specs.Invariant.{Invariant}
use Rattle.theorem_meaning.specs.Packets.{links_of}
use Rattle.theorem_take_silent.proofs.Places.{here-living}
use Rattle.theorem_take_answer.proofs.Completed.{taken-completes}
use Rattle.theorem_take_answer.proofs.Dropped.{taken-dropped, unwanted-dropped}
use Rattle.theorem_take_answer.proofs.Freed.{unwanted-frees}

-- any taken: its end lives, and its send is completed; or it is dropped
pub taken-goes : (i : ℕ) (w : World) (s : State) → Invariant i w s → (k from stamp : ℕ) (to : EndId) (n at hops : ℕ) (others : List Picture)
    → w.packets from k ≡ record { stamp = stamp; what = packet.Taken to n at hops } ∷ others → Goes i w s (Takes k from)
taken-goes i w s is k from stamp to n at hops others there = by (is_living (s.ends to).place) refl
  where
    none : is_living (s.ends to).place ≡ false → (x : Option HereView) → awaits n ((w.kernel k).table to) ≡ x → awaits n ((w.kernel k).table to) ≡ None
    none dead None at_none = at_none
    none dead (Some v) at_some =
        let lives = here-living (length s.made) (links_of w) s.ends is.setting.few is.links.named is.links.marked is.stands.links.once to k v (awaits-here n ((w.kernel k).table to) v at_some).0 in
        absurd (true≢false (sym lives ∙ dead))

    by : (b : Bool) → is_living (s.ends to).place ≡ b → Goes i w s (Takes k from)
    by true lives = taken-completes i w s is k from stamp to n at hops others there lives
    by false dead = taken-dropped i w s is k from stamp to n at hops others there (none dead (awaits n ((w.kernel k).table to)) refl)

-- whether the receive r is being withdrawn at an entry
withdraws : (r : ℕ) (y : Entry) → IsHereAnd y (λ v. v.inward ≡ inward.Withdrawing r) ⊎ (IsHereAnd y (λ v. v.inward ≡ inward.Withdrawing r) → ⊥)
withdraws r entry.Nothing = inr (λ has. has)
withdraws r (entry.Left to hops) = inr (λ has. has)
withdraws r (entry.Destroyed m) = inr (λ has. has)
withdraws r (entry.Here v) = by v.inward refl
  where
    by : (j : Inward) → v.inward ≡ j → (v.inward ≡ inward.Withdrawing r) ⊎ (v.inward ≡ inward.Withdrawing r → ⊥)
    by inward.Idle is = inr (λ has. absurd (let both : inward.Idle ≡ inward.Withdrawing r = sym is ∙ has in cc))
    by (inward.Posted m) is = inr (λ has. absurd (let both : inward.Posted m ≡ inward.Withdrawing r = sym is ∙ has in cc))
    by inward.Unreported is = inr (λ has. absurd (let both : inward.Unreported ≡ inward.Withdrawing r = sym is ∙ has in cc))
    by (inward.Withdrawing m) is = one (nat_eq m r) refl
      where
        same : inward.Withdrawing m ≡ inward.Withdrawing r → m ≡ r
        same both = cc

        one : (b : Bool) → nat_eq m r ≡ b → (v.inward ≡ inward.Withdrawing r) ⊎ (v.inward ≡ inward.Withdrawing r → ⊥)
        one true equal = inl (is ∙ ap inward.Withdrawing (eqb-true m r equal))
        one false apart = inr (λ has. true≢false (sym (eq-eqb m r (same (sym is ∙ has))) ∙ apart))

-- any unwanted: it meets the receive that is being withdrawn, and frees its end; or it is dropped
pub unwanted-goes : (i : ℕ) (w : World) (s : State) → Invariant i w s → (k from stamp : ℕ) (to : EndId) (r at hops : ℕ) (others : List Picture)
    → w.packets from k ≡ record { stamp = stamp; what = packet.Unwanted to r at hops } ∷ others → Goes i w s (Takes k from)
unwanted-goes i w s is k from stamp to r at hops others there = by (withdraws r ((w.kernel k).table to))
  where
    by : IsHereAnd ((w.kernel k).table to) (λ v. v.inward ≡ inward.Withdrawing r) ⊎ (IsHereAnd ((w.kernel k).table to) (λ v. v.inward ≡ inward.Withdrawing r) → ⊥) → Goes i w s (Takes k from)
    by (inl meets) = unwanted-frees i w s is k from stamp to r at hops others there meets
    by (inr none) = unwanted-dropped i w s is k from stamp to r at hops others there none
