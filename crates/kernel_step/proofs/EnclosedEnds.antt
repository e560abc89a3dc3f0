-- Ends that a message encloses, while one of them changes.
use Rattle.std.proofs.Common.{◌≡◌, ℕ, Bool, true, false, ◌||◌, List, [], ◌∷◌, ◌++◌, ap, sym, subst, ◌∙◌, refl, append_assoc}
use Rattle.std.specs.List.{list_any}
use Rattle.charlotte_calls.specs.declared.names.EndId.{EndId}
use Rattle.charlotte_packets.specs.declared.picture.MovingPicture.{MovingPicture}
use Rattle.end_table.specs.Place.{end_eq}
use Rattle.end_table.specs.Table.{IsHereAnd, IsIdle}
use Rattle.end_table.specs.declared.entry.Entry.{Entry}
use Rattle.end_table.specs.declared.entry.Holder.{Holder}
use Rattle.kernel_step.specs.Enclosed.{AreEnclosed}
use Rattle.charlotte_packets.specs.declared.work.Work.{Work}
use Rattle.kernel_step.specs.Actions.{here, held, hold_each, leave_each, leaves_here, value_leaving, values_leaving}
use Rattle.kernel_step.specs.Progress.{progress}

-- neither of two tests that are false together is true
pub first_false : (a b : Bool) → (a || b) ≡ false → a ≡ false
first_false true b h = h
first_false false b h = refl

pub second_false : (a b : Bool) → (a || b) ≡ false → b ≡ false
second_false true b h = cc
second_false false b h = h

-- ends that are no x stay enclosed where only the entry of x changes
pub AreEnclosed-others : (old new : EndId → Entry) (x : EndId) (xs : List EndId) → ((q : EndId) → end_eq x q ≡ false → new q ≡ old q) → list_any (end_eq x) xs ≡ false → AreEnclosed old xs → AreEnclosed new xs
AreEnclosed-others old new x [] same none are = tt
AreEnclosed-others old new x (y ∷ ys) same none are =
    let e : new y ≡ old y = same y (first_false _ _ none) in
    let P : Entry → Type 0 = λ z. IsHereAnd z IsIdle in
    (subst P (sym e) are.0, are.1, AreEnclosed-others old new x ys same (second_false _ _ none) are.2)

-- and so do their values as they leave
pub values_leaving-others : (k : ℕ) (old new : EndId → Entry) (x : EndId) (xs : List EndId) → ((q : EndId) → end_eq x q ≡ false → new q ≡ old q) → list_any (end_eq x) xs ≡ false → values_leaving k new xs ≡ values_leaving k old xs
unfolding values_leaving
values_leaving-others k old new x [] same none = refl
values_leaving-others k old new x (y ∷ ys) same none =
    ap (λ z. value_leaving k (here z) ++ values_leaving k new ys) (same y (first_false _ _ none))
    ∙ ap (λ vs. value_leaving k (here (old y)) ++ vs) (values_leaving-others k old new x ys same (second_false _ _ none))

-- LEAVE of the first of some ends, and then of the others, is that of all
pub leave_each-more : (to : ℕ) (x : EndId) (xs all : List EndId) (t0 t1 : EndId → Entry) (out : Work) → all ≡ x ∷ xs → progress t1 out ≡ leaves_here to (here (t0 x)) (progress t0 out) → leave_each to xs (progress t1 out) ≡ leave_each to all (progress t0 out)
unfolding leave_each progress
leave_each-more to x xs all t0 t1 out e h =
    ap (λ d. leave_each to xs d) h ∙ ap (λ ys. leave_each to ys (progress t0 out)) (sym e)

-- the values of all are that of the first and those of the others
pub values_leaving-more : (k : ℕ) (x : EndId) (xs all : List EndId) (t0 t1 : EndId → Entry) (m : MovingPicture) (before after : List MovingPicture) → all ≡ x ∷ xs → value_leaving k (here (t0 x)) ≡ m ∷ []
    → values_leaving k t1 xs ≡ values_leaving k t0 xs → after ≡ before ++ m ∷ [] → after ++ values_leaving k t1 xs ≡ before ++ values_leaving k t0 all
unfolding values_leaving
values_leaving-more k x xs all t0 t1 m before after e first others h =
    ap (λ ys. ys ++ values_leaving k t1 xs) h
    ∙ append_assoc before (m ∷ []) (values_leaving k t1 xs)
    ∙ ap (λ ys. before ++ (m ∷ ys)) others
    ∙ ap (λ ys. before ++ (ys ++ values_leaving k t0 xs)) (sym first)
    ∙ ap (λ ys. before ++ values_leaving k t0 ys) (sym e)

-- of ends that are enclosed, the first is idle and no other is the same, and the others are enclosed
pub AreEnclosed-first : (t : EndId → Entry) (x : EndId) (xs all : List EndId) → all ≡ x ∷ xs → AreEnclosed t all → AreEnclosed t (x ∷ xs)
AreEnclosed-first t x xs all e are = subst (AreEnclosed t) e are

-- another holder of the first of some ends, and then of the others, is one of all
pub hold_each-more : (h : Holder) (x : EndId) (xs all : List EndId) (t0 t1 : EndId → Entry) (out : Work) → all ≡ x ∷ xs → progress t1 out ≡ held h (here (t0 x)) (progress t0 out) → hold_each h xs (progress t1 out) ≡ hold_each h all (progress t0 out)
unfolding hold_each progress
hold_each-more h x xs all t0 t1 out e same =
    ap (λ d. hold_each h xs d) same ∙ ap (λ ys. hold_each h ys (progress t0 out)) (sym e)
