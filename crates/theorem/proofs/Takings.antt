-- The service goes with the taking of any packet.
use Rattle.std.proofs.Common.{◌≡◌, ◌⊎◌, inl, inr, ℕ, ◌^◌, ◌≤◌, ◌<◌, Bool, true, false, leb, List, ◌∷◌, Option, None, Some, refl, sym, subst}
use Rattle.std.proofs.lemmas.Bool.Decides.{leb_tells}
use Rattle.charlotte_calls.specs.declared.names.EndId.{EndId}
use Rattle.charlotte_packets.specs.declared.picture.Picture.{Picture}
use Rattle.charlotte_packets.specs.declared.picture.PictureWhat.{PictureWhat}
use Rattle.charlotte_packets.specs.declared.picture.PictureWhat.TheVariants as packet
use Rattle.end_table.specs.Table.{IfHere, IsHereAnd}
use Rattle.end_table.specs.declared.entry.Entry.{Entry}
use Rattle.end_table.specs.declared.entry.Entry.TheVariants as entry
use Rattle.end_table.specs.declared.entry.HereView.{HereView}
use Rattle.end_table.specs.declared.entry.Outward.{Outward}
use Rattle.end_table.specs.declared.entry.Outward.TheVariants as outward
use Rattle.kernel_world.specs.World.{World, Takes}
use Rattle.service_step.specs.State.{State}
use Rattle.theorem_call_cancel.proofs.Takings.{taken-goes, unwanted-goes}
use Rattle.theorem_take_parcel.proofs.Parcels.{parcel-asked-goes}
use Rattle.theorem_take_back_unmet.proofs.Unmet.{back-unmet-goes}
use Rattle.theorem_take_parcel_unmet.proofs.Backs.{parcel-back-goes}
use Rattle.kernel_step.specs.Rows.{asks, awaits}
use Rattle.theorem_take_back.proofs.Takings.{back-awaited-goes}
use Rattle.theorem_take_parcel_unmet.proofs.Wants.{want-matched-goes}
use Rattle.theorem_take_back.proofs.Gone.{gone-goes}
use Rattle.theorem_take_back.proofs.Hearing.{hearing-goes}
use Rattle.theorem_take_back.proofs.Taking.{taking-goes}
use Rattle.theorem_take_back.proofs.Unwanting.{unwant-goes}
use Rattle.theorem_take_back.proofs.Wanting.{IsNotWaiting, want-kept-goes}
use Rattle.theorem_meaning.proofs.Goes.{Goes}
use Rattle.theorem_meaning.specs.Invariant.{Invariant}

module _ (i : ℕ) (w : World) (s : State) (is : Invariant i w s) (room : i < 2 ^ 31) (k from stamp : ℕ) (others : List Picture) where
  abbrev First : PictureWhat → Type 0
  First what = w.packets from k ≡ record { stamp = stamp; what = what } ∷ others

  abbrev at : PictureWhat → Picture
  at what = record { stamp = stamp; what = what }

  -- an end that is here knows of the death of its link, or else served the receive already, or did not
  by-view : {X : Type 0} (v : HereView) (n : ℕ) → (v.value.dead ≡ true → X) → (v.value.dead ≡ false → n ≤ v.value.served → X) → (v.value.dead ≡ false → v.value.served < n → X) → X
  by-view {X} v n dead served unserved = of_dead v.value.dead refl
    where
      of_served : v.value.dead ≡ false → ((leb n v.value.served ≡ true) × (n ≤ v.value.served)) ⊎ ((leb n v.value.served ≡ false) × (v.value.served < n)) → X
      of_served alive (inl below) = served alive below.1
      of_served alive (inr above) = unserved alive above.1

      of_dead : (b : Bool) → v.value.dead ≡ b → X
      of_dead true is_dead = dead is_dead
      of_dead false alive = of_served alive (leb_tells n v.value.served)

  takes-unwant : (to : EndId) (n j h : ℕ) → First (packet.Unwant to n j h) → (x : Entry) → (w.kernel k).table to ≡ x → Goes i w s (Takes k from)
  takes-unwant to n j h there (entry.Here v) here =
      by-view v n
      (λ dead. taking-goes i w s is k from (at (packet.Unwant to n j h)) others there (subst (λ x. IfHere x (λ u. u.value.dead ≡ true)) (sym here) dead))
      (λ alive old. hearing-goes i w s is k from (at (packet.Unwant to n j h)) others there (subst (λ x. IsHereAnd x (λ u. (u.value.dead ≡ false) × (n ≤ u.value.served))) (sym here) (alive, old)))
      (λ alive low. unwant-goes i w s is k from stamp to n j h others there v here alive low)
  takes-unwant to n j h there entry.Nothing here = taking-goes i w s is k from (at (packet.Unwant to n j h)) others there (subst (λ x. IfHere x (λ u. u.value.dead ≡ true)) (sym here) tt)
  takes-unwant to n j h there (entry.Left a b) here = taking-goes i w s is k from (at (packet.Unwant to n j h)) others there (subst (λ x. IfHere x (λ u. u.value.dead ≡ true)) (sym here) tt)
  takes-unwant to n j h there (entry.Destroyed m) here = taking-goes i w s is k from (at (packet.Unwant to n j h)) others there (subst (λ x. IfHere x (λ u. u.value.dead ≡ true)) (sym here) tt)

  takes-want : (to : EndId) (n j h : ℕ) → First (packet.Want to n j h) → (x : Entry) → (w.kernel k).table to ≡ x → Goes i w s (Takes k from)
  takes-want to n j h there (entry.Here v) here =
      by-view v n
      (λ dead. taking-goes i w s is k from (at (packet.Want to n j h)) others there (subst (λ x. IfHere x (λ u. u.value.dead ≡ true)) (sym here) dead))
      (λ alive old. hearing-goes i w s is k from (at (packet.Want to n j h)) others there (subst (λ x. IsHereAnd x (λ u. (u.value.dead ≡ false) × (n ≤ u.value.served))) (sym here) (alive, old)))
      (λ alive low. unserved alive low v.outward refl)
    where
      unserved : v.value.dead ≡ false → v.value.served < n → (o : Outward) → v.outward ≡ o → Goes i w s (Takes k from)
      unserved alive low (outward.Waiting m bytes xs) waits = want-matched-goes i w s is room k from stamp to n j h others there v here alive low m bytes xs waits
      unserved alive low outward.Idle is_idle = want-kept-goes i w s is k from stamp to n j h others there v here alive low (subst IsNotWaiting (sym is_idle) tt)
      unserved alive low (outward.Matched m) is_matched = want-kept-goes i w s is k from stamp to n j h others there v here alive low (subst IsNotWaiting (sym is_matched) tt)
      unserved alive low outward.Unreported is_over = want-kept-goes i w s is k from stamp to n j h others there v here alive low (subst IsNotWaiting (sym is_over) tt)
  takes-want to n j h there entry.Nothing here = taking-goes i w s is k from (at (packet.Want to n j h)) others there (subst (λ x. IfHere x (λ u. u.value.dead ≡ true)) (sym here) tt)
  takes-want to n j h there (entry.Left a b) here = taking-goes i w s is k from (at (packet.Want to n j h)) others there (subst (λ x. IfHere x (λ u. u.value.dead ≡ true)) (sym here) tt)
  takes-want to n j h there (entry.Destroyed m) here = taking-goes i w s is k from (at (packet.Want to n j h)) others there (subst (λ x. IfHere x (λ u. u.value.dead ≡ true)) (sym here) tt)

  takes-moved : (to : EndId) (j h : ℕ) → First (packet.Moved to j h) → (x : Entry) → (w.kernel k).table to ≡ x → Goes i w s (Takes k from)
  takes-moved to j h there (entry.Here v) here = of_dead v.value.dead refl
    where
      of_dead : (b : Bool) → v.value.dead ≡ b → Goes i w s (Takes k from)
      of_dead true dead = taking-goes i w s is k from (at (packet.Moved to j h)) others there (subst (λ x. IfHere x (λ u. u.value.dead ≡ true)) (sym here) dead)
      of_dead false alive = hearing-goes i w s is k from (at (packet.Moved to j h)) others there (subst (λ x. IsHereAnd x (λ u. u.value.dead ≡ false)) (sym here) alive)
  takes-moved to j h there entry.Nothing here = taking-goes i w s is k from (at (packet.Moved to j h)) others there (subst (λ x. IfHere x (λ u. u.value.dead ≡ true)) (sym here) tt)
  takes-moved to j h there (entry.Left a b) here = taking-goes i w s is k from (at (packet.Moved to j h)) others there (subst (λ x. IfHere x (λ u. u.value.dead ≡ true)) (sym here) tt)
  takes-moved to j h there (entry.Destroyed m) here = taking-goes i w s is k from (at (packet.Moved to j h)) others there (subst (λ x. IfHere x (λ u. u.value.dead ≡ true)) (sym here) tt)

  pub takes-goes : (what : PictureWhat) → First what → Goes i w s (Takes k from)
  takes-goes (packet.Want to n j h) there = takes-want to n j h there ((w.kernel k).table to) refl
  takes-goes (packet.Unwant to n j h) there = takes-unwant to n j h there ((w.kernel k).table to) refl
  takes-goes (packet.Unwanted to n j h) there = unwanted-goes i w s is k from stamp to n j h others there
  takes-goes (packet.Parcel to m n j h bytes ms) there = meets (asks n ((w.kernel k).table to)) refl
    where
      meets : (x : Option HereView) → asks n ((w.kernel k).table to) ≡ x → Goes i w s (Takes k from)
      meets (Some v) asked = parcel-asked-goes i w s is k from stamp to m n j h bytes ms others there v asked
      meets None none = parcel-back-goes i w s is room k from stamp to m n j h bytes ms others there none
  takes-goes (packet.Taken to m j h) there = taken-goes i w s is k from stamp to m j h others there
  takes-goes (packet.Back to m ms) there = meets (awaits m ((w.kernel k).table to)) refl
    where
      meets : (x : Option HereView) → awaits m ((w.kernel k).table to) ≡ x → Goes i w s (Takes k from)
      meets (Some v) awaited = back-awaited-goes i w s is k from stamp to m ms others there v awaited
      meets None none = back-unmet-goes i w s is k from stamp to m ms others there none
  takes-goes (packet.Gone to j) there = gone-goes i w s is k from stamp to j others there
  takes-goes (packet.Moved to j h) there = takes-moved to j h there ((w.kernel k).table to) refl
  takes-goes (packet.Known to h) there = taking-goes i w s is k from (at (packet.Known to h)) others there tt
  takes-goes (packet.Forget to h) there = taking-goes i w s is k from (at (packet.Forget to h)) others there tt
  takes-goes (packet.GoneSeen to) there = taking-goes i w s is k from (at (packet.GoneSeen to)) others there tt
