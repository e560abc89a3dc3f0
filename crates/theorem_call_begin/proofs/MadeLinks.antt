-- After a granted Make the links stand for the state of the service.
use Rattle.std.proofs.Common.{◌≡◌, ◌≢◌, ◌⊎◌, ◌↔◌, inl, inr, ℕ, ◌+◌, false, Contains, refl, sym, ap, subst, ◌∙◌, arith}
use Rattle.charlotte_calls.specs.declared.names.EndId.{EndId}
use Rattle.charlotte_calls.specs.declared.names.Pid.{Pid}
use Rattle.charlotte_packets.specs.declared.picture.PictureWhat.{PictureWhat}
use Rattle.end_table.specs.Table.{IsHereAnd}
use Rattle.end_table.specs.declared.entry.Entry.{Entry}
use Rattle.end_table.specs.declared.entry.Entry.TheVariants as entry
use Rattle.end_table.specs.declared.entry.HereView.{HereView}
use Rattle.end_table.specs.declared.entry.Holder.TheVariants as holder
use Rattle.kernel_step.specs.Calls.{made_end}
use Rattle.kernel_step.specs.Rows.{ends_in, is_here}
use Rattle.theorem_meaning.specs.World.{World}
use Rattle.service_step.specs.Ends.{fresh, is_living}
use Rattle.service_step.specs.State.{State}
use Rattle.service_step.specs.declared.state.End.{End}
use Rattle.service_step.specs.declared.state.Place.TheVariants as place
use Rattle.theorem_take_silent.proofs.Ends.{inward-same, outward-same}
use Rattle.theorem_take_silent.proofs.Sums.{sum_over-same}
use Rattle.theorem_meaning.proofs.Plain.{holder-same, owner-same}
use Rattle.theorem_meaning.proofs.Sums.{over-one, over-same}
use Rattle.theorem_meaning.specs.Fields.{At, Flying, value_of}
use Rattle.theorem_meaning.specs.Packets.{IsBackOf, IsParcelFor, IsParcelOf, IsTakenOf, IsUnderWay, IsUnwantedOf, Links, links_of, one_if, over_kernels, sum_over, values_for, values_of}
use Rattle.theorem_meaning.specs.StandsFor.{AreLinksOf, IsEndOf, IsInMessage, IsOwnedHere, IsWaitingWith, entry_at, home_of, standing}
use Rattle.theorem_call_begin.proofs.Making.{IsNew, Making, after_making, entry-or, is-new-view, new-end, new-entry, new-or, new_view, no-fields, old-end, old-entry, packet-same, value-of_end, was-nowhere}

module _ {i : ℕ} {w : World} {s : State} {k : ℕ} {p : Pid} {u : Links} (x : Making i w s k p u) where
  abbrev l : Links
  l = links_of w

  abbrev t : State
  t = after_making s p (made_end k (w.kernel k).made)

  -- ---- how often ends stand anywhere

  values-same : (f : EndId) → sum_over (λ q. values_for f (values_of q)) u ≡ sum_over (λ q. values_for f (values_of q)) l
  values-same f = sum_over-same (λ q. values_for f (values_of q)) x.changes tt tt

  old-standing : (f : EndId) → (IsNew x f → ⊥) → standing u f ≡ standing l f
  unfolding standing
  old-standing f old =
      let here : over_kernels (λ j. one_if (is_here (u.entry j f))) ≡ over_kernels (λ j. one_if (is_here (l.entry j f)))
      = over-same (λ j. one_if (is_here (l.entry j f))) (λ j. one_if (is_here (u.entry j f))) (λ j. ap (λ y. one_if (is_here y)) (old-entry x j f old)) in
      let values : sum_over (λ q. values_for f (values_of q)) u ≡ sum_over (λ q. values_for f (values_of q)) l = values-same f in
      omega (arith, here, values)

  -- no kernel had a new end
  was-away : (j : ℕ) (f : EndId) → IsNew x f → is_here (l.entry j f) ≡ false
  was-away j f link = by (l.entry j f) refl
    where
      by : (y : Entry) → l.entry j f ≡ y → is_here y ≡ false
      by entry.Nothing there = refl
      by (entry.Left to hops) there = refl
      by (entry.Destroyed m) there = refl
      by (entry.Here v) there = absurd (no-fields x f link (At j) v.value (ap value_of there))

  new-standing : (f : EndId) → IsNew x f → standing u f ≡ 1
  unfolding standing
  new-standing f link =
      let at_home : one_if (is_here (u.entry k f)) ≡ 1 = ap (λ y. one_if (is_here y)) (new-entry x f link) in
      let here : over_kernels (λ j. one_if (is_here (u.entry j f))) ≡ one_if (is_here (u.entry k f))
      = over-one (λ j. one_if (is_here (u.entry j f))) k (omega (arith, x.near, x.is.setting.few)) elsewhere in
      let none : over_kernels (λ j. one_if (is_here (l.entry j f))) + sum_over (λ q. values_for f (values_of q)) l ≡ 0 = was-nowhere x f link in
      let values : sum_over (λ q. values_for f (values_of q)) u ≡ sum_over (λ q. values_for f (values_of q)) l = values-same f in
      omega (arith, at_home, here, none, values)
    where
      elsewhere : (j : ℕ) → j ≢ k → one_if (is_here (u.entry j f)) ≡ 0
      elsewhere j apart = by (entry-or x j f link)
        where
          by : ((j ≡ k) × (u.entry j f ≡ entry.Here (new_view k p f))) ⊎ (u.entry j f ≡ l.entry j f) → one_if (is_here (u.entry j f)) ≡ 0
          by (inl is) = absurd (apart is.0)
          by (inr same) = ap (λ y. one_if (is_here y)) same ∙ ap one_if (was-away j f link)

  once-after : (f : EndId) → standing u f ≡ one_if (is_living (t.ends f).place)
  once-after f = by (new-or x f)
    where
      by : IsNew x f ⊎ (IsNew x f → ⊥) → standing u f ≡ one_if (is_living (t.ends f).place)
      by (inl link) = new-standing f link ∙ sym (ap (λ (y : End). one_if (is_living y.place)) (new-end x f link))
      by (inr old) = old-standing f old ∙ x.is.stands.links.once f ∙ sym (ap (λ (y : End). one_if (is_living y.place)) (old-end x f old))

  -- ---- who holds them

  -- what is true of the view of a new end that is here is true of the new view, at its kernel
  new-here : (f : EndId) → IsNew x f → (j : ℕ) (P : HereView → Type 0) → IsHereAnd (u.entry j f) P → (j ≡ k) × P (new_view k p f)
  new-here f link j P has = by (u.entry j f) refl has
    where
      by : (y : Entry) → u.entry j f ≡ y → IsHereAnd y P → (j ≡ k) × P (new_view k p f)
      by (entry.Here v) there is = let same = is-new-view x f link j v there in (same.0, subst P (sym same.1) is)
      by _ there is = absurd is

  was-here : (f : EndId) → IsNew x f → (j : ℕ) (P : HereView → Type 0) → IsHereAnd (l.entry j f) P → ⊥
  was-here f link j P has = by (l.entry j f) refl has
    where
      by : (y : Entry) → l.entry j f ≡ y → IsHereAnd y P → ⊥
      by (entry.Here v) there is = no-fields x f link (At j) v.value (ap value_of there)
      by _ there is = absurd is

  owned-after : (f : EndId) (q : Pid) → ((t.ends f).place ≡ place.Owned q) ↔ IsOwnedHere q (entry_at u (home_of s q) f)
  owned-after f q = by (new-or x f)
    where
      by : IsNew x f ⊎ (IsNew x f → ⊥) → ((t.ends f).place ≡ place.Owned q) ↔ IsOwnedHere q (entry_at u (home_of s q) f)
      by (inl link) = (there, back)
        where
          placed : (t.ends f).place ≡ place.Owned p
          placed = ap (λ (y : End). y.place) (new-end x f link)

          there : (t.ends f).place ≡ place.Owned q → IsOwnedHere q (entry_at u (home_of s q) f)
          there is =
              let who : p ≡ q = owner-same p q (sym placed ∙ is) in
              subst (λ z. IsOwnedHere z (entry_at u (home_of s z) f)) who
              (subst (λ j. IsOwnedHere p (entry_at u j f)) (sym x.at) (subst (IsOwnedHere p) (sym (new-entry x f link)) refl))

          back : IsOwnedHere q (entry_at u (home_of s q) f) → (t.ends f).place ≡ place.Owned q
          back has =
              let is = new-here f link (home_of s q) (λ v. v.holder ≡ holder.Owner q) has in
              placed ∙ ap place.Owned (holder-same p q is.1)
      by (inr old) = (
        λ is. subst (IsOwnedHere q) (sym (old-entry x (home_of s q) f old)) ((x.is.stands.links.owned f q).0 (sym (ap (λ (y : End). y.place) (old-end x f old)) ∙ is)),
        λ has. ap (λ (y : End). y.place) (old-end x f old) ∙ (x.is.stands.links.owned f q).1 (subst (IsOwnedHere q) (old-entry x (home_of s q) f old) has),
      )

  -- a send that waits waited before
  waiting-was : (j : ℕ) (g : EndId) (m : ℕ) → IsHereAnd (entry_at u j g) (λ v. IsWaitingWith m v.outward) → IsHereAnd (entry_at l j g) (λ v. IsWaitingWith m v.outward)
  waiting-was j g m has = by (new-or x g)
    where
      by : IsNew x g ⊎ (IsNew x g → ⊥) → IsHereAnd (entry_at l j g) (λ v. IsWaitingWith m v.outward)
      by (inl link) = absurd (new-here g link j (λ v. IsWaitingWith m v.outward) has).1
      by (inr old) = subst (λ y. IsHereAnd y (λ v. IsWaitingWith m v.outward)) (old-entry x j g old) has

  waiting-still : (j : ℕ) (g : EndId) (m : ℕ) → IsHereAnd (entry_at l j g) (λ v. IsWaitingWith m v.outward) → IsHereAnd (entry_at u j g) (λ v. IsWaitingWith m v.outward)
  waiting-still j g m has = by (new-or x g)
    where
      by : IsNew x g ⊎ (IsNew x g → ⊥) → IsHereAnd (entry_at u j g) (λ v. IsWaitingWith m v.outward)
      by (inl link) = absurd (was-here g link j (λ v. IsWaitingWith m v.outward) has)
      by (inr old) = subst (λ y. IsHereAnd y (λ v. IsWaitingWith m v.outward)) (sym (old-entry x j g old)) has

  -- no packet brings a new end
  unbrought : (f : EndId) → IsNew x f → IsUnderWay u (λ q. Contains (ends_in (values_of q)) f) → ⊥
  unbrought f link is =
      let was = (packet-same x (λ q. Contains (ends_in (values_of q)) f)).0 is in
      let value = value-of_end (values_of was.packet.what) f was.is in
      no-fields x f link Flying value.0 (record { from = was.from; to = was.to; packet = was.packet; there = was.there; is = value.1 }, value.2)

  module _ (f g : EndId) (m : ℕ) where
    abbrev IsThere : PictureWhat → Type 0
    IsThere q = IsParcelOf g m q × Contains (ends_in (values_of q)) f

    abbrev IsBack : PictureWhat → Type 0
    IsBack q = IsBackOf g m q × Contains (ends_in (values_of q)) f

    old-in_message : (IsNew x f → ⊥) → IsInMessage l f g m ↔ IsInMessage u f g m
    old-in_message old = (still, was)
      where
        still : IsInMessage l f g m → IsInMessage u f g m
        still (inl y) = inl (record { at = y.at; enclosed = subst (λ z. IsHereAnd z (λ v. v.holder ≡ holder.EnclosedIn g)) (sym (old-entry x y.at f old)) y.enclosed; waiting = waiting-still y.at g m y.waiting })
        still (inr (inl y)) = inr (inl ((packet-same x IsThere).1 y))
        still (inr (inr y)) = inr (inr ((packet-same x IsBack).1 y))

        was : IsInMessage u f g m → IsInMessage l f g m
        was (inl y) = inl (record { at = y.at; enclosed = subst (λ z. IsHereAnd z (λ v. v.holder ≡ holder.EnclosedIn g)) (old-entry x y.at f old) y.enclosed; waiting = waiting-was y.at g m y.waiting })
        was (inr (inl y)) = inr (inl ((packet-same x IsThere).0 y))
        was (inr (inr y)) = inr (inr ((packet-same x IsBack).0 y))

    -- a new end is in no message
    new-in_message : IsNew x f → IsInMessage u f g m → ⊥
    new-in_message link (inl y) = differ (new-here f link y.at (λ v. v.holder ≡ holder.EnclosedIn g) y.enclosed).1
      where
        differ : holder.Owner p ≡ holder.EnclosedIn g → ⊥
        differ is = cc
    new-in_message link (inr (inl y)) = unbrought f link (record { from = y.from; to = y.to; packet = y.packet; there = y.there; is = y.is.1 })
    new-in_message link (inr (inr y)) = unbrought f link (record { from = y.from; to = y.to; packet = y.packet; there = y.there; is = y.is.1 })

    in_message-after : ((t.ends f).place ≡ place.InMessage g m) ↔ IsInMessage u f g m
    in_message-after = by (new-or x f)
      where
        differ : place.Owned p ≡ place.InMessage g m → ⊥
        differ is = cc

        by : IsNew x f ⊎ (IsNew x f → ⊥) → ((t.ends f).place ≡ place.InMessage g m) ↔ IsInMessage u f g m
        by (inl link) = (λ is. absurd (differ (sym (ap (λ (y : End). y.place) (new-end x f link)) ∙ is)), λ has. absurd (new-in_message link has))
        by (inr old) = (
          λ is. (old-in_message old).0 ((x.is.stands.links.in_message f g m).0 (sym (ap (λ (y : End). y.place) (old-end x f old)) ∙ is)),
          λ has. ap (λ (y : End). y.place) (old-end x f old) ∙ (x.is.stands.links.in_message f g m).1 ((old-in_message old).1 has),
        )

  -- ---- sends and receives of owned ends

  new-agrees : (f : EndId) → IsEndOf u f (new_view k p f) (fresh (place.Owned p))
  new-agrees f = record { sent = refl; noticed = refl; outward = tt; inward = tt }

  agree-after : (f : EndId) (q : Pid) (v : HereView) → (t.ends f).place ≡ place.Owned q → entry_at u (home_of s q) f ≡ entry.Here v → IsEndOf u f v (t.ends f)
  agree-after f q v owned there = by (new-or x f)
    where
      by : IsNew x f ⊎ (IsNew x f → ⊥) → IsEndOf u f v (t.ends f)
      by (inl link) = subst (IsEndOf u f v) (sym (new-end x f link)) (subst (λ z. IsEndOf u f z (fresh (place.Owned p))) (is-new-view x f link (home_of s q) v there).1 (new-agrees f))
      by (inr old) =
          let was = x.is.stands.links.agree f q v (sym (ap (λ (y : End). y.place) (old-end x f old)) ∙ owned) (sym (old-entry x (home_of s q) f old) ∙ there) in
          subst (IsEndOf u f v) (sym (old-end x f old))
          (record {
            sent = was.sent;
            noticed = was.noticed;
            outward = outward-same l u f (λ m. packet-same x (IsTakenOf f m)) (s.ends f).sent v.outward (s.ends f).outward was.outward;
            inward = inward-same l u f (λ r m. packet-same x (IsParcelFor f r m)) (λ r. packet-same x (IsUnwantedOf f r)) v.inward (s.ends f).inward was.inward;
          })

  pub made-links : AreLinksOf u t
  made-links = record { once = once-after; owned = owned-after; in_message = λ f g m. in_message-after f g m; agree = agree-after }
