-- An answer stands to a process: its program is found.
use Rattle.std.proofs.Common.{◌≡◌, ◌≢◌, ◌⊎◌, inl, inr, ℕ, zero, suc, ◌+◌, ◌<◌, ◌≤◌, arith, true, false, nat_eq, List, [], ◌∷◌, length, set, leb, ap, sym, refl, ◌∙◌}
use Rattle.std.specs.Prelude.{slice_index_or}
use Rattle.std.proofs.lemmas.Bool.Decides.{eqb_tells, leb_tells}
use Rattle.charlotte_calls.specs.declared.names.Pid.{Pid}
use Rattle.program_round.specs.Doings.{answered_at}
use Rattle.program_round.specs.declared.doing.Doing.{Doing}
use Rattle.program_round.specs.declared.doing.Doing.TheVariants.{Answered}

-- what a test of two numbers tells
pub same-number : (a b : ℕ) → nat_eq a b ≡ true → a ≡ b
same-number a b is = elim (eqb_tells a b) [ inl e ↦ e.1 | inr e ↦ let never : true ≡ false = sym is ∙ e.0 in cc ]

pub other-number : (a b : ℕ) → nat_eq a b ≡ false → a ≢ b
other-number a b is = elim (eqb_tells a b) [ inl e ↦ let never : true ≡ false = sym e.0 ∙ is in cc | inr e ↦ e.1 ]

-- an item that is there is the same whatever stands for one that is not
pub any-default : {X : Type 0} (xs : List X) (i : ℕ) (d e : X) → i < length xs → slice_index_or xs i d ≡ slice_index_or xs i e
any-default [] i d e below = absurd (omega (arith, below))
any-default (x ∷ xs) zero d e below = refl
any-default (x ∷ xs) (suc i) d e below = any-default xs i d e (omega (arith, below))

module _ {P : Type 0} (p : Pid) where
  -- at none of the places before this one is a program of the process
  abbrev pub IsAwayBefore : ℕ → List (Pid × P) → Type 0
  IsAwayBefore place all = (q : ℕ) (d : Pid × P) → q < place → p.0 ≢ (slice_index_or all q d).0.0

  -- one place more
  pub away-more : (place : ℕ) (all : List (Pid × P)) (x : Pid × P) → place < length all → IsAwayBefore place all → p.0 ≢ (slice_index_or all place x).0.0 → IsAwayBefore (place + 1) all
  away-more place all x below away here q d less = by (leb_tells (suc q) place)
    where
      by : ((leb (suc q) place ≡ true) × (q < place)) ⊎ ((leb (suc q) place ≡ false) × (place < suc q)) → p.0 ≢ (slice_index_or all q d).0.0
      by (inl e) = away q d e.1
      by (inr e) =
          let same : q ≡ place = omega (arith, e.1, less) in
          λ is. here (is ∙ ap (λ i. (slice_index_or all i d).0.0) same ∙ ap (λ z. z.0.0) (any-default all place d x below))

  -- the first program is of another process, or of this one
  head-found : (y : Pid × P) (ys : List (Pid × P)) (d : Doing) (ds : List Doing) → p.0 ≡ y.0.0 → Answered ∷ ds ≡ answered_at p (y ∷ ys) (d ∷ ds)
  head-found y ys d ds same = by (eqb_tells p.0 y.0.0)
    where
      by : ((nat_eq p.0 y.0.0 ≡ true) × (p.0 ≡ y.0.0)) ⊎ ((nat_eq p.0 y.0.0 ≡ false) × (p.0 ≢ y.0.0)) → Answered ∷ ds ≡ answered_at p (y ∷ ys) (d ∷ ds)
      by (inl e) = rw e.0 refl
      by (inr e) = absurd (e.1 same)

  head-other : (y : Pid × P) (ys : List (Pid × P)) (d : Doing) (ds : List Doing) → p.0 ≢ y.0.0 → d ∷ answered_at p ys ds ≡ answered_at p (y ∷ ys) (d ∷ ds)
  head-other y ys d ds other = by (eqb_tells p.0 y.0.0)
    where
      by : ((nat_eq p.0 y.0.0 ≡ true) × (p.0 ≡ y.0.0)) ⊎ ((nat_eq p.0 y.0.0 ≡ false) × (p.0 ≢ y.0.0)) → d ∷ answered_at p ys ds ≡ answered_at p (y ∷ ys) (d ∷ ds)
      by (inl e) = absurd (other e.1)
      by (inr e) = rw e.0 refl

  -- it is found at a place
  pub found-at : (all : List (Pid × P)) (ds : List Doing) (place : ℕ) (x : Pid × P) → place < length all → p.0 ≡ (slice_index_or all place x).0.0 → length all ≤ length ds → IsAwayBefore place all
      → set ds place Answered ≡ answered_at p all ds
  found-at [] ds place x below same long away = absurd (omega (arith, below))
  found-at (y ∷ ys) [] place x below same long away = absurd (omega (arith, long))
  found-at (y ∷ ys) (d ∷ ds) zero x below same long away = head-found y ys d ds same
  found-at (y ∷ ys) (d ∷ ds) (suc place) x below same long away =
      ap (λ l. d ∷ l) (found-at ys ds place x (omega (arith, below)) same (omega (arith, long)) (λ q z less. away (suc q) z (omega (arith, less))))
      ∙ head-other y ys d ds (away zero y (omega arith))

  -- it is found nowhere
  pub found-nowhere : (all : List (Pid × P)) (ds : List Doing) → length all ≤ length ds → IsAwayBefore (length all) all → ds ≡ answered_at p all ds
  found-nowhere [] ds long away = refl
  found-nowhere (y ∷ ys) [] long away = refl
  found-nowhere (y ∷ ys) (d ∷ ds) long away =
      ap (λ l. d ∷ l) (found-nowhere ys ds (omega (arith, long)) (λ q z less. away (suc q) z (omega (arith, less))))
      ∙ head-other y ys d ds (away zero y (omega arith))
