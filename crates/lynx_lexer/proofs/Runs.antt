-- Runs of bytes at the front of lists.
use Rattle.std.proofs.Common.{◌≡◌, ℕ, suc, ◌≤◌, ◌⊎◌, Bool, true, false, ◌&&◌, List, [], ◌∷◌, ◌++◌, length, take, drop, refl, sym, ap, ◌∙◌, subst, arith, inl, inr}
use Rattle.std.specs.Prelude.{⊤}
use Rattle.std.specs.List.{list_all, prefix_len}

pub both_true : (x y : Bool) → (x && y) ≡ true → (x ≡ true) × (y ≡ true)
both_true true y e = (refl, e)
both_true false y e = absurd cc

pub all_head : (p : ℕ → Bool) (b : ℕ) (bs : List ℕ) → list_all p (b ∷ bs) ≡ true → p b ≡ true
all_head p b bs e = (both_true (p b) (list_all p bs) e).0

pub all_tail : (p : ℕ → Bool) (b : ℕ) (bs : List ℕ) → list_all p (b ∷ bs) ≡ true → list_all p bs ≡ true
all_tail p b bs e = (both_true (p b) (list_all p bs) e).1

-- the end, or a byte that does not go on the run
abbrev pub Stops : (ℕ → Bool) → List ℕ → Type 0
Stops p [] = ⊤
Stops p (b ∷ bs) = p b ≡ false

pub run_longest : (p : ℕ → Bool) (text rest other more : List ℕ) → text ++ rest ≡ other ++ more → Stops p rest → list_all p other ≡ true → length other ≤ length text
run_longest p text rest [] more e stops all = omega arith
run_longest p [] [] (c ∷ other) more e stops all = absurd cc
run_longest p [] (b ∷ rest) (c ∷ other) more e stops all =
    let same : b ≡ c = cc in
    let goes : p c ≡ true = all_head p c other all in
    let ends : p c ≡ false = ap p (sym same) ∙ stops in
    absurd cc
run_longest p (b ∷ text) rest (c ∷ other) more e stops all =
    let tails : text ++ rest ≡ other ++ more = cc in
    omega (arith, run_longest p text rest other more tails stops (all_tail p c other all))

-- two fronts of one length are one
pub same_fronts : (a b x y : List ℕ) → a ++ x ≡ b ++ y → length a ≡ length b → (a ≡ b) × (x ≡ y)
same_fronts [] [] x y e l = (refl, e)
same_fronts [] (c ∷ b) x y e l = absurd (omega arith)
same_fronts (c ∷ a) [] x y e l = absurd (omega arith)
same_fronts (c ∷ a) (d ∷ b) x y e l =
    let tails : a ++ x ≡ b ++ y = cc in
    let lengths : length a ≡ length b = omega arith in
    let heads : c ≡ d = cc in
    let found = same_fronts a b x y tails lengths in
    (λ i. heads i ∷ found.0 i, found.1)

cases_bool : (b : Bool) → (b ≡ true) ⊎ (b ≡ false)
cases_bool true = inl refl
cases_bool false = inr refl

pub prefix_len-yes : (p : ℕ → Bool) (b : ℕ) (bs : List ℕ) → p b ≡ true → prefix_len p (b ∷ bs) ≡ suc (prefix_len p bs)
prefix_len-yes p b bs passes = rw passes (omega arith)

pub prefix_len-no : (p : ℕ → Bool) (b : ℕ) (bs : List ℕ) → p b ≡ false → prefix_len p (b ∷ bs) ≡ 0
prefix_len-no p b bs fails = rw fails refl

pub run_passes : (p : ℕ → Bool) (bs : List ℕ) → list_all p (take (prefix_len p bs) bs) ≡ true
run_passes p [] = refl
run_passes p (b ∷ bs) =
    elim (cases_bool (p b)) [
      | inl passes ↦ ap (λ (n : ℕ). list_all p (take n (b ∷ bs))) (prefix_len-yes p b bs passes) ∙ ap (λ (t : Bool). t && list_all p (take (prefix_len p bs) bs)) passes ∙ run_passes p bs
      | inr fails ↦ ap (λ (n : ℕ). list_all p (take n (b ∷ bs))) (prefix_len-no p b bs fails)
    ]

pub run_stops : (p : ℕ → Bool) (bs : List ℕ) → Stops p (drop (prefix_len p bs) bs)
run_stops p [] = tt
run_stops p (b ∷ bs) =
    elim (cases_bool (p b)) [
      | inl passes ↦ subst (λ (n : ℕ). Stops p (drop n (b ∷ bs))) (sym (prefix_len-yes p b bs passes)) (run_stops p bs)
      | inr fails ↦ subst (λ (n : ℕ). Stops p (drop n (b ∷ bs))) (sym (prefix_len-no p b bs fails)) fails
    ]
