-- Numbers of threads and of ends, as code finds them.
use Rattle.std.proofs.Common.{arith, ◌≡◌, ℕ, zero, suc, ◌+◌, ◌<◌, ◌≤◌, Bool, true, false, List, [], ◌∷◌, ◌++◌, length, Option, Some, None, slice_get, if◌then◌else◌, refl, ap, ◌∙◌}
use Rattle.charlotte_calls.specs.declared.names.EndId.{EndId}
use Rattle.charlotte_calls.specs.EndEq.{end_eq}
use Rattle.machine_turns.specs.Threads.{Standing}
use Rattle.lynx_interp.specs.Machines.{how_many}
use Rattle.process_run.specs.States.{Place}
use Rattle.process_run.specs.Ends.{number_from, or_number}
use Rattle.process_run.specs.Reports.{free_from}

-- ---- threads

-- the first free number is the one below which threads stand
pub first_free : (n i : ℕ) (ts : List (Option Standing)) → slice_get ts i ≡ Some None
    → ((k : ℕ) → k < i → (s : Standing) × (slice_get ts k ≡ Some (Some s))) → free_from n ts ≡ Some (n + i)
first_free n i [] free below = let no : None ≡ Some None = free in absurd cc
first_free n zero (None ∷ ts) free below = ap (λ (k : ℕ). Some k) (omega arith)
first_free n zero (Some s ∷ ts) free below = let no : Some (Some s) ≡ Some None = free in absurd cc
first_free n (suc i) (None ∷ ts) free below =
    let first = below zero (omega arith) in
    let no : Some None ≡ Some (Some first.0) = first.1 in absurd cc
first_free n (suc i) (Some s ∷ ts) free below =
    let later : (suc n) + i ≡ n + suc i = omega arith in
    first_free (suc n) i ts free (λ k less. below (suc k) (omega (arith, less))) ∙ ap (λ (k : ℕ). Some k) later

at_most_all : (ts : List (Option Standing)) → how_many ts ≤ length ts
at_most_all [] = omega arith
at_most_all (Some s ∷ ts) = let others : how_many ts ≤ length ts = at_most_all ts in omega (arith, others)
at_most_all (None ∷ ts) = let others : how_many ts ≤ length ts = at_most_all ts in omega (arith, others)

-- where all stand, no number is free
pub none_free : (n : ℕ) (ts : List (Option Standing)) → how_many ts ≡ length ts → free_from n ts ≡ None
none_free n [] all = refl
none_free n (Some s ∷ ts) all = none_free (suc n) ts (let same : how_many ts + 1 ≡ suc (length ts) = all in omega (arith, same))
none_free n (None ∷ ts) all = let most : how_many ts ≤ length ts = at_most_all ts in absurd (let same : how_many ts ≡ suc (length ts) = all in omega (arith, same, most))

-- ---- ends

chosen : (b : Bool) (n : ℕ) → b ≡ true → (if b then n else 0) ≡ n
chosen b n e = ap (λ (c : Bool). if c then n else 0) e

left_out : (b : Bool) (n : ℕ) → b ≡ false → (if b then n else 0) ≡ 0
left_out b n e = ap (λ (c : Bool). if c then n else 0) e

-- an end that was got last has the last number
pub got_last : (n : ℕ) (x : EndId) (ps : List Place) (p : Place) → end_eq p.end x ≡ true → number_from n x (ps ++ p ∷ []) ≡ n + length ps
got_last n x [] p e = chosen (end_eq p.end x) n e ∙ omega arith
got_last n x (q ∷ ps) p e =
    let later : (n + 1) + length ps ≡ suc (n + length ps) = omega arith in
    let rest : number_from (n + 1) x (ps ++ p ∷ []) ≡ suc (n + length ps) = got_last (n + 1) x ps p e ∙ later in
    ap (λ (k : ℕ). or_number k (if end_eq q.end x then n else 0)) rest ∙ omega arith

-- and all other ends have the numbers that they had
pub others_got : (n : ℕ) (x : EndId) (ps : List Place) (p : Place) → end_eq p.end x ≡ false → number_from n x (ps ++ p ∷ []) ≡ number_from n x ps
others_got n x [] p e = left_out (end_eq p.end x) n e
others_got n x (q ∷ ps) p e = ap (λ (k : ℕ). or_number k (if end_eq q.end x then n else 0)) (others_got (n + 1) x ps p e)
