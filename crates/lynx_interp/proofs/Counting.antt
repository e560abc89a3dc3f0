-- Threads that are counted and found.
use Rattle.std.proofs.Common.{arith, ◌≡◌, ℕ, zero, suc, ◌+◌, ◌<◌, ◌≤◌, List, [], ◌∷◌, ◌++◌, length, replicate, take, ℤ, pos, negsuc, IsTrue, nat_abs, Bool, true, false, nat_lt, Option, Some, None, MatchOption, is_some, slice_get, refl, sym, ap, subst, ◌∙◌, ⊎_elim, true≢false, length-take-le}
use Rattle.std.specs.Prelude.{slice_index_or}
use Rattle.std.proofs.lemmas.Bool.{ltb_from_iff}
use Rattle.machine_turns.specs.Threads.{Standing}
use Rattle.machine_turns.specs.Turns.{Turns, IsFree, most_threads}
use Rattle.std.proofs.lemmas.Bool.Decides.{nat_tests}
use Rattle.typing_rules.specs.Types.{is_length}
use Rattle.machine_sound.proofs.Placing.{decided}
use Rattle.lynx_interp.specs.Machines.{how_many}

pub at_most : (ts : List (Option Standing)) → how_many ts ≤ length ts
at_most [] = omega arith
at_most (Some s ∷ ts) = let rest = at_most ts in omega arith
at_most (None ∷ ts) = let rest = at_most ts in omega arith

-- where each number has a thread
pub all_stand : (ts : List (Option Standing)) → ((k : ℕ) → k < length ts → (s : Standing) × (slice_get ts k ≡ Some (Some s))) → how_many ts ≡ length ts
all_stand [] stand = refl
all_stand (Some s ∷ ts) stand = let rest = all_stand ts (λ k less. stand (suc k) (omega arith)) in omega arith
all_stand (None ∷ ts) stand = let first = stand 0 (omega arith) in absurd (none_there first.0 first.1)
  where
    none_there : (s : Standing) → Some None ≡ Some (Some s) → ⊥
    none_there s e = cc

-- where a number is free
pub one_free : (ts : List (Option Standing)) (n : ℕ) → slice_get ts n ≡ Some None → how_many ts < length ts
one_free [] n free = cc
one_free (None ∷ ts) zero free = let most = at_most ts in omega arith
one_free (Some s ∷ ts) zero free = cc
one_free (None ∷ ts) (suc n) free = let rest = one_free ts n free in omega arith
one_free (Some s ∷ ts) (suc n) free = let rest = one_free ts n free in omega arith

-- one more is counted
pub count_more : (ts : List (Option Standing)) (o : Option Standing) → how_many (ts ++ o ∷ []) ≡ how_many ts + how_many (o ∷ [])
count_more [] o = omega arith
count_more (Some s ∷ ts) o = let rest = count_more ts o in omega arith
count_more (None ∷ ts) o = let rest = count_more ts o in omega arith

some_there : (o : Option Standing) (b : Bool) → b ≡ is_some o → b ≡ true → (s : Standing) × (o ≡ Some s)
some_there None b is one = absurd (true≢false (sym one ∙ is))
some_there (Some s) b is one = (s, refl)

found_at : (ts : List (Option Standing)) (n : ℕ) (o : Option Standing) → n < length ts → o ≡ slice_index_or ts n o → slice_get ts n ≡ Some o
found_at [] n o less found = absurd (omega arith)
found_at (t ∷ ts) zero o less found = ap Some (sym found)
found_at (t ∷ ts) (suc n) o less found = found_at ts n o (omega arith) found

smaller : (k n : ℕ) → (k ≡ n → ⊥) → k < n + 1 → k < n
smaller k n other less = grind (arith, other)

taken_more : (ts : List (Option Standing)) (i : ℕ) (o : Option Standing) → i < length ts → take (suc i) ts ≡ take i ts ++ slice_index_or ts i o ∷ []
taken_more [] i o less = absurd (omega arith)
taken_more (t ∷ ts) zero o less = none_taken ts
  where
    none_taken : (xs : List (Option Standing)) → t ∷ take 0 xs ≡ t ∷ []
    none_taken xs = refl
taken_more (t ∷ ts) (suc i) o less = ap (λ (xs : List (Option Standing)). t ∷ xs) (taken_more ts i o (omega arith))

-- the next one is counted
pub counted : (ts : List (Option Standing)) (i n m : ℕ) (o : Option Standing) → o ≡ slice_index_or ts i o → i < length ts → n ≡ how_many (take i ts) → m ≡ n + how_many (o ∷ []) → m ≡ how_many (take (i + 1) ts)
counted ts i n m o found less so_far more =
    let size : i + 1 ≡ suc i = omega arith in
    let all = ap (λ k. how_many (take k ts)) size ∙ ap how_many (taken_more ts i o less) ∙ count_more (take i ts) (slice_index_or ts i o) in
    let same = ap (λ (q : Option Standing). how_many (q ∷ [])) found in
    omega arith

pub one_there : (o : Option Standing) (b : Bool) → b ≡ is_some o → b ≡ true → how_many (o ∷ []) ≡ 1
one_there None b is one = absurd (true≢false (sym one ∙ is))
one_there (Some s) b is one = omega arith

pub nothing_there : (o : Option Standing) (b : Bool) → b ≡ is_some o → b ≡ false → how_many (o ∷ []) ≡ 0
nothing_there None b is no_one = refl
nothing_there (Some s) b is no_one = absurd (true≢false (sym is ∙ no_one))

-- so few can be counted
pub few : (ts : List (Option Standing)) (i n : ℕ) → n ≡ how_many (take i ts) → i < length ts → length ts ≡ 32 → n + 1 < 256
few ts i n so_far less size =
    let most = at_most (take i ts) in
    let taken = length-take-le i ts in
    omega arith

-- each number has a thread so far
pub stands_so_far : (ts us : List (Option Standing)) (n i : ℕ) (o : Option Standing) (b : Bool) → ts ≡ us → i ≡ n → o ≡ slice_index_or ts i o → n < length ts → b ≡ is_some o → b ≡ true →
    ((k : ℕ) → k < n → (s : Standing) × (slice_get us k ≡ Some (Some s))) → (k : ℕ) → k < n + 1 → (s : Standing) × (slice_get us k ≡ Some (Some s))
stands_so_far ts us n i o b all same found within is one so_far k less = ⊎_elim (λ (e : k ≡ n). subst (λ (j : ℕ). (s : Standing) × (slice_get us j ≡ Some (Some s))) (sym e) here) (λ (other : k ≡ n → ⊥). so_far k (below other)) (decided k n)
  where
    below : (k ≡ n → ⊥) → k < n
    below other = smaller k n other less

    place : slice_get ts n ≡ Some o
    place = found_at ts n o within (found ∙ ap (λ (j : ℕ). slice_index_or ts j o) same)

    here : (s : Standing) × (slice_get us n ≡ Some (Some s))
    here = let it = some_there o b is one in (it.0, subst (λ (vs : List (Option Standing)). slice_get vs n ≡ Some (Some it.0)) all (place ∙ ap Some it.1))

pub full : (ts us : List (Option Standing)) (n : ℕ) → ts ≡ us → length ts ≡ 32 → 32 ≤ n → ((k : ℕ) → k < n → (s : Standing) × (slice_get us k ≡ Some (Some s))) → how_many us ≡ 32
full ts us n all size past stand =
    let long = ap length (sym all) ∙ size in
    all_stand us (λ k less. stand k (omega arith)) ∙ long

-- one more fits where a number is free
pub fits_one : (t : Turns) (o : Option ℕ) (b : Bool) → length t.threads ≡ most_threads → b ≡ is_some o → MatchOption o (how_many t.threads ≡ most_threads) (λ n. IsFree n t)
    → b ≡ nat_lt (how_many t.threads) most_threads
fits_one t None b size is full = ltb_from_iff (λ one. absurd (true≢false (sym one ∙ is)), λ less. absurd (omega (arith, less, full)))
fits_one t (Some n) b size is free = let less = one_free t.threads n free in ltb_from_iff (λ one. omega (arith, less, size), λ small. is)

-- a thread is at its place
at_place : (ts : List (Option Standing)) (n : ℕ) (o p : Option Standing) → slice_get ts n ≡ Some p → slice_index_or ts n o ≡ p
at_place [] n o p here = cc
at_place (t ∷ ts) zero o p here = cc
at_place (t ∷ ts) (suc n) o p here = at_place ts n o p here

pub slot_there : (ts : List (Option Standing)) (n i : ℕ) (o : Option Standing) (s : Standing) → i ≡ n → o ≡ slice_index_or ts i o → slice_get ts n ≡ Some (Some s) → o ≡ Some s
slot_there ts n i o s same found here = found ∙ ap (λ (k : ℕ). slice_index_or ts k o) same ∙ at_place ts n o (Some s) here

-- ---- lists

pub one_more : {X : Type 0} (n : ℕ) (x : X) → replicate n x ++ x ∷ [] ≡ replicate (n + 1) x
one_more n x = more n (n + 1) x (omega arith)
  where
    more : {X : Type 0} (n k : ℕ) (x : X) → k ≡ suc n → replicate n x ++ x ∷ [] ≡ replicate k x
    more zero k x e = ap (λ i. replicate i x) (sym e)
    more (suc n) k x e = ap (λ xs. x ∷ xs) (more n (suc n) x refl) ∙ ap (λ i. replicate i x) (sym e)

pub taken_zeros : {X : Type 0} (n m : ℕ) (x : X) → n ≤ m → take n (replicate m x) ≡ replicate n x
taken_zeros zero m x less = refl
taken_zeros (suc n) zero x less = absurd (omega arith)
taken_zeros (suc n) (suc m) x less = ap (λ xs. x ∷ xs) (taken_zeros n m x (omega arith))

-- a row that is allowed is a short one
pub short_row : (n : ℤ) → IsTrue (is_length n) → nat_abs n ≤ 16
short_row (pos n) is = grind (arith, nat_tests, is)
short_row (negsuc n) is = absurd (true≢false (sym is))
