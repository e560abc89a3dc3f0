-- Where ends are destroyed, the links stand for the ends of the service afterwards.
use Rattle.std.proofs.Common.{◌≡◌, ◌↔◌, inl, inr, ℕ, ◌≤◌, Bool, true, false, Contains, refl, sym, ap, subst, ◌∙◌, true≢false}
use Rattle.charlotte_calls.specs.declared.names.EndId.{EndId}
use Rattle.charlotte_calls.specs.declared.names.Pid.{Pid}
use Rattle.charlotte_packets.specs.declared.picture.PictureWhat.{PictureWhat}
use Rattle.end_table.specs.declared.entry.Entry.TheVariants as entry
use Rattle.end_table.specs.declared.entry.HereView.{HereView}
use Rattle.end_table.specs.declared.entry.Holder.TheVariants as holder
use Rattle.kernel_step.specs.Rows.{ends_in}
use Rattle.service_step.specs.Ends.{is_living}
use Rattle.service_step.specs.State.{State, Process}
use Rattle.service_step.specs.declared.state.End.{End}
use Rattle.service_step.specs.declared.state.Inward.{Inward}
use Rattle.service_step.specs.declared.state.Outward.{Outward}
use Rattle.service_step.specs.declared.state.Place.{Place}
use Rattle.service_step.specs.declared.state.Place.TheVariants as place
use Rattle.theorem_take_silent.proofs.Aside.{brought-same, in_message-same}
use Rattle.theorem_take_silent.proofs.Ends.{inward-same, outward-same, standing-same}
use Rattle.theorem_take_silent.specs.Change.{Change, Changes}
use Rattle.theorem_take_silent.specs.Sums.{IsWithin}
use Rattle.theorem_meaning.specs.Invariant.{AreMarked, AreNamed}
use Rattle.theorem_meaning.specs.Packets.{IsBackOf, IsParcelFor, IsParcelOf, IsTakenOf, IsUnwantedOf, Links, one_if, values_of}
use Rattle.theorem_meaning.specs.StandsFor.{AreLinksOf, IsEndOf, IsInMessage, IsInwardOf, IsOutwardOf, IsOwnedHere, IsWaitingWith, entry_at, home_of, standing}
use Rattle.theorem_ends_destroyed.specs.Ending.{IsEnding}
use Rattle.theorem_ends_destroyed.proofs.Facts as facts

module _ {ended : EndId → Bool} {w u : Links} {c : Change} {s : State} {t : EndId → End} {g : ℕ → Process} (b : Changes w c u) (x : IsEnding ended w c s t g) (n : ℕ) (few : n ≤ 8) (named : AreNamed n w s.ends)
    (marked : (e : EndId) → AreMarked w s.ends e) (within : IsWithin 8 c) (is : AreLinksOf w s) where
  gone-owned : (p : Pid) → place.Destroyed ≡ place.Owned p → ⊥
  gone-owned p same = cc

  gone-inside : (f : EndId) (m : ℕ) → place.Destroyed ≡ place.InMessage f m → ⊥
  gone-inside f m same = cc

  -- an end that is owned or in a message afterwards is not destroyed
  owned-unended : (e : EndId) (p : Pid) → (t e).place ≡ place.Owned p → ended e ≡ false
  owned-unended e p at = facts.unended b x e (ap (λ (y : Place). is_living y) at)

  inside-unended : (e f : EndId) (m : ℕ) → (t e).place ≡ place.InMessage f m → ended e ≡ false
  inside-unended e f m at = facts.unended b x e (ap (λ (y : Place). is_living y) at)

  once-after : (e : EndId) → standing u e ≡ one_if (is_living (t e).place)
  once-after e = by (ended e) refl
    where
      by : (d : Bool) → ended e ≡ d → standing u e ≡ one_if (is_living (t e).place)
      by true on = facts.stands-nowhere b x n few named marked is.once within e on ∙ sym (ap (λ (y : Place). one_if (is_living y)) (facts.place-ended b x e on))
      by false off = standing-same b e (x.others e off) (facts.unbrought b x e off) ∙ is.once e ∙ sym (ap (λ (y : Place). one_if (is_living y)) (facts.place-other b x e off))

  owned-after : (e : EndId) (p : Pid) → ((t e).place ≡ place.Owned p) ↔ IsOwnedHere p (entry_at u (home_of s p) e)
  owned-after e p = (still, was)
    where
      still : (t e).place ≡ place.Owned p → IsOwnedHere p (entry_at u (home_of s p) e)
      still at =
          let off = owned-unended e p at in
          facts.here-still b x (home_of s p) e (λ v. v.holder ≡ holder.Owner p) off ((is.owned e p).0 (sym (facts.place-other b x e off) ∙ at))

      was : IsOwnedHere p (entry_at u (home_of s p) e) → (t e).place ≡ place.Owned p
      was has =
          facts.place-other b x e (facts.here-unended b x n few named marked is.once within (home_of s p) e (λ v. v.holder ≡ holder.Owner p) has)
          ∙ (is.owned e p).1 (facts.here-was b x n few named marked is.once within (home_of s p) e (λ v. v.holder ≡ holder.Owner p) has)

  -- ---- messages

  module _ (e f : EndId) (m : ℕ) where
    abbrev brings-parcel : PictureWhat → Type 0
    brings-parcel q = IsParcelOf f m q × Contains (ends_in (values_of q)) e

    abbrev brings-back : PictureWhat → Type 0
    brings-back q = IsBackOf f m q × Contains (ends_in (values_of q)) e

    -- an end that is not destroyed is in the messages in which it was
    message-still : ended e ≡ false → IsInMessage w e f m → IsInMessage u e f m
    message-still off has = by (ended f) refl has
      where
        by : (d : Bool) → ended f ≡ d → IsInMessage w e f m → IsInMessage u e f m
        by false other has = (in_message-same b e (x.others e off) (facts.unbrought b x e off) f m (λ j. facts.other-entry b x j f other)).1 has
        by true on (inl y) = absurd (true≢false (sym (x.enclosed e f m on y) ∙ off))
        by true on (inr (inl y)) = inr (inl ((brought-same b e (facts.unbrought b x e off) brings-parcel (λ q has. has.1)).1 y))
        by true on (inr (inr y)) = inr (inr ((brought-same b e (facts.unbrought b x e off) brings-back (λ q has. has.1)).1 y))

    message-was : ended e ≡ false → IsInMessage u e f m → IsInMessage w e f m
    message-was off has = by (ended f) refl has
      where
        by : (d : Bool) → ended f ≡ d → IsInMessage u e f m → IsInMessage w e f m
        by false other has = (in_message-same b e (x.others e off) (facts.unbrought b x e off) f m (λ j. facts.other-entry b x j f other)).0 has
        by true on (inl y) = absurd (facts.not-here b x n few named marked is.once within y.at f (λ v. IsWaitingWith m v.outward) on y.waiting)
        by true on (inr (inl y)) = inr (inl ((brought-same b e (facts.unbrought b x e off) brings-parcel (λ q has. has.1)).0 y))
        by true on (inr (inr y)) = inr (inr ((brought-same b e (facts.unbrought b x e off) brings-back (λ q has. has.1)).0 y))

    -- one that is destroyed is in none
    message-none : ended e ≡ true → IsInMessage u e f m → ⊥
    message-none on (inl y) = facts.not-here b x n few named marked is.once within y.at e (λ v. v.holder ≡ holder.EnclosedIn f) on y.enclosed
    message-none on (inr (inl y)) =
        facts.not-brought b x n few named marked is.once within e on (record { from = y.from; to = y.to; packet = y.packet; there = y.there; is = y.is.1 })
    message-none on (inr (inr y)) =
        facts.not-brought b x n few named marked is.once within e on (record { from = y.from; to = y.to; packet = y.packet; there = y.there; is = y.is.1 })

    in_message-after : ((t e).place ≡ place.InMessage f m) ↔ IsInMessage u e f m
    in_message-after = (still, was (ended e) refl)
      where
        still : (t e).place ≡ place.InMessage f m → IsInMessage u e f m
        still at = let off = inside-unended e f m at in message-still off ((is.in_message e f m).0 (sym (facts.place-other b x e off) ∙ at))

        was : (d : Bool) → ended e ≡ d → IsInMessage u e f m → (t e).place ≡ place.InMessage f m
        was true on has = absurd (message-none on has)
        was false off has = facts.place-other b x e off ∙ (is.in_message e f m).1 (message-was off has)

  -- ---- sends and receives

  outward-after : (e : EndId) (p : Pid) (v : HereView) → (t e).place ≡ place.Owned p → IsEndOf w e v (s.ends e) → IsOutwardOf u e (t e).sent v.outward (t e).outward
  outward-after e p v at end =
      subst (λ (o : Outward). IsOutwardOf u e (t e).sent v.outward o) (sym (facts.outward-kept b x e (ap (λ (y : Place). is_living y) at)))
      (subst (λ z. IsOutwardOf u e z v.outward (s.ends e).outward) (sym (facts.sent-same b x e))
      (outward-same w u e (λ m. facts.packet-same b x (IsTakenOf e m) (λ to k no. no) (λ f m ms no. no)) (s.ends e).sent v.outward (s.ends e).outward end.outward))

  inward-after : (e : EndId) (v : HereView) → IsEndOf w e v (s.ends e) → IsInwardOf u e v.inward (t e).inward
  inward-after e v end =
      subst (λ (i : Inward). IsInwardOf u e v.inward i) (sym (facts.inward-same b x e))
      (inward-same w u e (λ r m. facts.packet-same b x (IsParcelFor e r m) (λ to k no. no) (λ f m ms no. no)) (λ r. facts.packet-same b x (IsUnwantedOf e r) (λ to k no. no) (λ f m ms no. no)) v.inward (s.ends e).inward end.inward)

  agree-after : (e : EndId) (p : Pid) (v : HereView) → (t e).place ≡ place.Owned p → entry_at u (home_of s p) e ≡ entry.Here v → IsEndOf u e v (t e)
  agree-after e p v at there =
      let off = owned-unended e p at in
      let end = is.agree e p v (sym (facts.place-other b x e off) ∙ at) (sym (facts.other-entry b x (home_of s p) e off) ∙ there) in
      record {
        sent = facts.sent-same b x e ∙ end.sent;
        noticed = facts.noticed-same b x e ∙ end.noticed;
        outward = outward-after e p v at end;
        inward = inward-after e v end;
      }

  pub ended-links : AreLinksOf u (record s { ends = t; process = g })
  ended-links = record { once = once-after; owned = owned-after; in_message = in_message-after; agree = agree-after }
