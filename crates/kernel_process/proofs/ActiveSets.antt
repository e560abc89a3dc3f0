-- The sets of the ends on which processes have started an activity.
use Rattle.std.proofs.Common.{◌≡◌, ◌≢◌, ◌⊎◌, inl, inr, ℕ, ◌<◌, Bool, true, false, true≢false, cond, nat_eq, ◌&&◌, List, [], ◌∷◌, length, arith, slice_set, slice_get, Some, map, ap, sym, subst, ◌∙◌, refl, get_or, if◌then◌else◌}
use Rattle.std.specs.List.{list_any}
use Rattle.std.proofs.lemmas.Bool.Decides.{eqb_tells}
use Rattle.std.proofs.lemmas.Grind.{get_or-set_at}
use Rattle.std.proofs.lemmas.List.{get_or-set_other}
use Rattle.std.proofs.Math.ListN.{length-set}
use Rattle.std.proofs.lemmas.Option.{slice_get-get_or, slice_get_within, get_or_from_slice_get}
use Rattle.charlotte_calls.specs.declared.names.EndId.{EndId}
use Rattle.charlotte_calls.specs.declared.names.Pid.{Pid}
use Rattle.end_table.proofs.EndEq.{end_eq-same}
use Rattle.end_table.specs.Owned.{owned}
use Rattle.end_table.specs.Place.{end_eq}
use Rattle.end_table.specs.declared.entry.Entry.{Entry}
use Rattle.kernel_step.specs.Calls.{is_active}
use Rattle.kernel_process.proofs.KeptMoved.{get-moved}
use Rattle.kernel_process.specs.Active.{started_ends, Tells, Refreshes, Empties}
use Rattle.kernel_process.specs.declared.process.ControlBlock.{ControlBlock}

-- the test of two numbers
same : (a b : ℕ) → a ≡ b → nat_eq a b ≡ true
same a b e = by (eqb_tells a b)
  where
    by : ((nat_eq a b ≡ true) × (a ≡ b)) ⊎ ((nat_eq a b ≡ false) × (a ≢ b)) → nat_eq a b ≡ true
    by (inl t) = t.0
    by (inr t) = absurd (t.1 e)

apart : (a b : ℕ) → a ≢ b → nat_eq a b ≡ false
apart a b e = by (eqb_tells a b)
  where
    by : ((nat_eq a b ≡ true) × (a ≡ b)) ⊎ ((nat_eq a b ≡ false) × (a ≢ b)) → nat_eq a b ≡ false
    by (inl t) = absurd (e t.1)
    by (inr t) = t.0

-- nothing is taken out of a set that has nothing
pub none-removed : (xs : List EndId) (end e : EndId) → length xs ≡ 0 → list_any (end_eq e) xs ≡ (if end_eq end e then false else list_any (end_eq e) xs)
none-removed [] end e none = by (end_eq end e)
  where
    by : (b : Bool) → false ≡ cond b false false
    by true = refl
    by false = refl
none-removed (x ∷ xs) end e none = absurd (omega arith)

-- what one process is, where it or another one is set
set_process : (R : ℕ → ControlBlock → ControlBlock → Type 0) (xs : List ControlBlock) (i : ℕ) (d y : ControlBlock) → i < length xs → R i y (get_or xs i d) → ((q : ℕ) (x : ControlBlock) → q ≢ i → R q x x)
    → (q : ℕ) (x : ControlBlock) → slice_get (slice_set xs i y) q ≡ Some x → (z : ControlBlock) × (slice_get xs q ≡ Some z) × R q x z
set_process R xs i d y within here others q x is = by (eqb_tells q i)
  where
    reads : get_or (slice_set xs i y) q d ≡ x
    reads = get_or_from_slice_get (slice_set xs i y) q x d is

    below : q < length xs
    below = subst (λ n. q < n) (length-set xs i y) (slice_get_within (slice_set xs i y) q x is)

    by : ((nat_eq q i ≡ true) × (q ≡ i)) ⊎ ((nat_eq q i ≡ false) × (q ≢ i)) → (z : ControlBlock) × (slice_get xs q ≡ Some z) × R q x z
    by (inl t) = (get_or xs q d, slice_get-get_or xs q d below, subst (λ v. R q v (get_or xs q d)) (sym (get_or-set_at xs i q y d t.1 within) ∙ reads) (subst (λ k. R k y (get_or xs k d)) (sym t.1) here))
    by (inr t) = (get_or xs q d, slice_get-get_or xs q d below, subst (λ v. R q v (get_or xs q d)) (sym (get_or-set_other xs i q y d t.1) ∙ reads) (others q (get_or xs q d) t.1))

-- a process whose set has one end as `started` says is set
pub set_refreshes : (xs : List ControlBlock) (i : ℕ) (d y : ControlBlock) (p : Pid) (end : EndId) (started : Bool) → d ≡ get_or xs i d → i ≡ p.0 → p.0 < length xs
    → ((e : EndId) → list_any (end_eq e) y.active.keys ≡ (if end_eq end e then started else list_any (end_eq e) d.active.keys))
    → Refreshes p end started xs (slice_set xs i y)
set_refreshes xs i d y p end started lent at within noted q x is =
    set_process (λ n v w. (e : EndId) → list_any (end_eq e) v.active.keys ≡ (if nat_eq p.0 n && end_eq end e then started else list_any (end_eq e) w.active.keys))
    xs i d y (subst (λ n. n < length xs) (sym at) within) here others q.0 x is
  where
    here : (e : EndId) → list_any (end_eq e) y.active.keys ≡ (if nat_eq p.0 i && end_eq end e then started else list_any (end_eq e) (get_or xs i d).active.keys)
    here e = noted e ∙ ap (λ (z : ControlBlock). cond (end_eq end e) started (list_any (end_eq e) z.active.keys)) lent
        ∙ ap (λ b. cond (b && end_eq end e) started (list_any (end_eq e) (get_or xs i d).active.keys)) (sym (same p.0 i (sym at)))

    others : (n : ℕ) (x : ControlBlock) → n ≢ i → (e : EndId) → list_any (end_eq e) x.active.keys ≡ (if nat_eq p.0 n && end_eq end e then started else list_any (end_eq e) x.active.keys)
    others n x other e = ap (λ b. cond (b && end_eq end e) started (list_any (end_eq e) x.active.keys)) (sym (apart p.0 n (λ s. other (sym s ∙ sym at))))

-- a process whose set is empty is set
pub set_empties : (xs : List ControlBlock) (i : ℕ) (d y : ControlBlock) (p : Pid) → i ≡ p.0 → p.0 < length xs → y.active.keys ≡ [] → Empties p xs (slice_set xs i y)
set_empties xs i d y p at within none q x is =
    set_process (λ n v w. (e : EndId) → list_any (end_eq e) v.active.keys ≡ (if nat_eq p.0 n then false else list_any (end_eq e) w.active.keys))
    xs i d y (subst (λ n. n < length xs) (sym at) within) here others q.0 x is
  where
    here : (e : EndId) → list_any (end_eq e) y.active.keys ≡ (if nat_eq p.0 i then false else list_any (end_eq e) (get_or xs i d).active.keys)
    here e = ap (list_any (end_eq e)) none ∙ ap (λ b. cond b false (list_any (end_eq e) (get_or xs i d).active.keys)) (sym (same p.0 i (sym at)))

    others : (n : ℕ) (x : ControlBlock) → n ≢ i → (e : EndId) → list_any (end_eq e) x.active.keys ≡ (if nat_eq p.0 n then false else list_any (end_eq e) x.active.keys)
    others n x other e = ap (λ b. cond b false (list_any (end_eq e) x.active.keys)) (sym (apart p.0 n (λ s. other (sym s ∙ sym at))))

-- Whether the set of each process tells its started activities, as an event changes what is started

-- sets with the same ends tell the same, where no activity changed
pub tells_same : (t u : EndId → Entry) (xs ys : List ControlBlock) → Tells t xs → map started_ends ys ≡ map started_ends xs
    → ((p : Pid) (e : EndId) → is_active (owned p (u e)) ≡ is_active (owned p (t e))) → Tells u ys
tells_same t u xs ys told same_ends unchanged p y is e =
    let found = get-moved started_ends xs ys same_ends p.0 y is in
    ap (list_any (end_eq e)) found.2 ∙ told p found.0 found.1 e ∙ sym (unchanged p e)

-- a choice by two tests, and by one
choose : (a b w x y : Bool) → (a ≡ true → b ≡ true → w ≡ y) → (a ≡ false → x ≡ y) → (b ≡ false → x ≡ y) → (if a && b then w else x) ≡ y
choose true true w x y both first second = both refl refl
choose true false w x y both first second = second refl
choose false b w x y both first second = first refl

choose_one : (a w x y : Bool) → (a ≡ true → w ≡ y) → (a ≡ false → x ≡ y) → (if a then w else x) ≡ y
choose_one true w x y held failed = held refl
choose_one false w x y held failed = failed refl

same_pid : (p q : Pid) → nat_eq p.0 q.0 ≡ true → p ≡ q
same_pid p q is = by (eqb_tells p.0 q.0)
  where
    by : ((nat_eq p.0 q.0 ≡ true) × (p.0 ≡ q.0)) ⊎ ((nat_eq p.0 q.0 ≡ false) × (p.0 ≢ q.0)) → p ≡ q
    by (inl t) = λ j. record { 0 = t.1 j }
    by (inr t) = absurd (true≢false (sym is ∙ t.0))

other_pid : (p q : Pid) → nat_eq p.0 q.0 ≡ false → q.0 ≢ p.0
other_pid p q is e = true≢false (sym (same p.0 q.0 (sym e)) ∙ is)

-- activity of p changes at one end alone, and its set was refreshed there
pub tells_refreshed : (t u : EndId → Entry) (xs ys zs : List ControlBlock) (p : Pid) (end : EndId) → Tells t xs → map started_ends ys ≡ map started_ends xs
    → ((q : Pid) (e : EndId) → end_eq end e ≡ false → is_active (owned q (u e)) ≡ is_active (owned q (t e)))
    → ((q : Pid) → q.0 ≢ p.0 → is_active (owned q (u end)) ≡ is_active (owned q (t end)))
    → Refreshes p end (is_active (owned p (u end))) ys zs → Tells u zs
tells_refreshed t u xs ys zs p end told same_ends elsewhere others refreshed q z is e =
    let found = refreshed q z is in
    let before = get-moved started_ends xs ys same_ends q.0 found.0 found.1 in
    let was : list_any (end_eq e) (found.0).active.keys ≡ is_active (owned q (t e)) = ap (list_any (end_eq e)) before.2 ∙ told q before.0 before.1 e in
    found.2 e
    ∙ choose (nat_eq p.0 q.0) (end_eq end e) (is_active (owned p (u end))) (list_any (end_eq e) (found.0).active.keys) (is_active (owned q (u e)))
    (λ here there. ap (λ r. is_active (owned r (u end))) (same_pid p q here) ∙ ap (λ o. is_active (owned q (u o))) (end_eq-same end e there))
    (λ other. was ∙ sym (by (end_eq end e) refl (other_pid p q other)))
    (λ other. was ∙ sym (elsewhere q e other))
  where
    by : (b : Bool) → end_eq end e ≡ b → q.0 ≢ p.0 → is_active (owned q (u e)) ≡ is_active (owned q (t e))
    by true there other = subst (λ o. is_active (owned q (u o)) ≡ is_active (owned q (t o))) (end_eq-same end e there) (others q other)
    by false there other = elsewhere q e there

-- p has no activity any more, and its set was emptied
pub tells_emptied : (t u : EndId → Entry) (xs ys zs : List ControlBlock) (p : Pid) → Tells t xs → map started_ends ys ≡ map started_ends xs
    → ((q : Pid) (e : EndId) → q.0 ≢ p.0 → is_active (owned q (u e)) ≡ is_active (owned q (t e)))
    → ((e : EndId) → is_active (owned p (u e)) ≡ false)
    → Empties p ys zs → Tells u zs
tells_emptied t u xs ys zs p told same_ends others none emptied q z is e =
    let found = emptied q z is in
    let before = get-moved started_ends xs ys same_ends q.0 found.0 found.1 in
    let was : list_any (end_eq e) (found.0).active.keys ≡ is_active (owned q (t e)) = ap (list_any (end_eq e)) before.2 ∙ told q before.0 before.1 e in
    found.2 e
    ∙ choose_one (nat_eq p.0 q.0) false (list_any (end_eq e) (found.0).active.keys) (is_active (owned q (u e)))
    (λ here. sym (none e) ∙ ap (λ r. is_active (owned r (u e))) (same_pid p q here))
    (λ other. was ∙ sym (others q e (other_pid p q other)))
