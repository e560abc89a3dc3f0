-- Where the program of a process stands among those of its kernel.
use Rattle.std.proofs.Common.{◌≡◌, ◌≢◌, ◌⊎◌, inl, inr, ℕ, zero, suc, ◌+◌, ◌<◌, Bool, true, false, nat_eq, if◌then◌else◌, List, [], ◌∷◌, length, get_or, Some, None, refl, ap, sym, ◌∙◌, arith}
use Rattle.std.specs.List.{sum_by}
use Rattle.std.specs.Prelude.{slice_get}
use Rattle.std.proofs.lemmas.Bool.{eq-eqb}
use Rattle.std.proofs.lemmas.Bool.Decides.{eqb_tells}
use Rattle.std.proofs.lemmas.List.Sums.{sum_by-cons}
use Rattle.charlotte_calls.specs.declared.names.Pid.{Pid}
use Rattle.kernel_worker.specs.Nodes.{sum_of}
use Rattle.node_start.proofs.Placed.{AreApart}
use Rattle.node_start.specs.Homes.{programs_from, with_one}

-- ---- sums

sum-first : (n : ℕ) (g : ℕ → ℕ) → sum_of (suc n) g ≡ g 0 + sum_of n (λ i. g (suc i))
sum-first zero g = omega arith
sum-first (suc n) g = let rest : sum_of (suc n) g ≡ g 0 + sum_of n (λ i. g (suc i)) = sum-first n g in omega (arith, rest)

-- the sum of numbers by the elements of a list is that by their places
pub sum-places : {X : Type 0} (f : X → ℕ) (g : ℕ → ℕ) (xs : List X) → ((i : ℕ) (x : X) → slice_get xs i ≡ Some x → f x ≡ g i) → sum_by f xs ≡ sum_of (length xs) g
sum-places f g [] same = refl
sum-places f g (x ∷ xs) same =
    let here : f x ≡ g 0 = same 0 x refl in
    let rest : sum_by f xs ≡ sum_of (length xs) (λ i. g (suc i)) = sum-places f (λ i. g (suc i)) xs (λ i y at. same (suc i) y at) in
    sum_by-cons f x xs ∙ omega (arith, here, rest) ∙ sym (sum-first (length xs) g)

-- ---- places

module _ {P : Type 0} where
  -- the place of the first program of a process
  abbrev pub place_in : ℕ → List (Pid × P) → ℕ
  place_in i [] = 0
  place_in i (x ∷ xs) = if nat_eq x.0.0 i then 0 else suc (place_in i xs)

  -- where no two are of one process, it is the one place
  pub place-is : (k : ℕ) (xs : List (Pid × P)) (j : ℕ) (x : Pid × P) → AreApart k xs → slice_get xs j ≡ Some x → place_in x.0.0 xs ≡ j
  place-is k [] j x apart at = let no : None ≡ Some x = at in absurd cc
  place-is k (y ∷ ys) zero x apart at =
      let is : Some y ≡ Some x = at in
      let same : y ≡ x = cc in
      ap (λ b. if b then 0 else suc (place_in x.0.0 ys)) (eq-eqb y.0.0 x.0.0 (ap (λ (z : Pid × P). z.0.0) same))
  place-is k (y ∷ ys) (suc j) x apart at =
      by (eqb_tells y.0.0 x.0.0) (place-is k ys j x (λ a b v w first second same. let next : suc a ≡ suc b = apart (suc a) (suc b) v w first second same in omega (arith, next)) at)
    where
      by : ((nat_eq y.0.0 x.0.0 ≡ true) × (y.0.0 ≡ x.0.0)) ⊎ ((nat_eq y.0.0 x.0.0 ≡ false) × (y.0.0 ≢ x.0.0)) → place_in x.0.0 ys ≡ j → place_in x.0.0 (y ∷ ys) ≡ suc j
      by (inl e) rest = let no : zero ≡ suc j = apart zero (suc j) y x refl at (ap (λ i. record { 0 = i }) e.1) in absurd (omega (arith, no))
      by (inr e) rest = ap (λ b. if b then 0 else suc (place_in x.0.0 ys)) e.0 ∙ ap suc rest

  behind-one : (b : Bool) (x y : Pid × P) (xs : List (Pid × P)) (j : ℕ) → slice_get xs j ≡ Some y → (i : ℕ) × (slice_get (with_one b x xs) i ≡ Some y)
  behind-one true x y xs j at = (suc j, at)
  behind-one false x y xs j at = (j, at)

  -- the program of a process of a kernel stands among those of the kernel
  pub on-there : (k i : ℕ) (homes : List ℕ) (ps : List P) (n : ℕ) (p : P) → n < length homes → get_or homes n 0 ≡ k → slice_get ps n ≡ Some p
      → (j : ℕ) × (slice_get (programs_from k i homes ps) j ≡ Some (record { 0 = i + n }, p))
  on-there k i [] ps n p below at_home at = absurd (omega (arith, below))
  on-there k i (home ∷ homes) [] n p below at_home at = let no : None ≡ Some p = at in absurd cc
  on-there k i (home ∷ homes) (q ∷ ps) zero p below at_home at =
      let is : Some q ≡ Some p = at in
      let same : q ≡ p = cc in (
        0,
        ap (λ b. slice_get (with_one b (record { 0 = i }, q) (programs_from k (i + 1) homes ps)) 0) (eq-eqb home k at_home)
            ∙ ap (λ j. Some (record { 0 = j }, q)) (omega arith) ∙ ap (λ r. Some (record { 0 = i + 0 }, r)) same,
      )
  on-there k i (home ∷ homes) (q ∷ ps) (suc n) p below at_home at =
      let rest = on-there k (i + 1) homes ps n p (omega (arith, below)) at_home at in
      let next = behind-one (nat_eq home k) (record { 0 = i }, q) (record { 0 = i + 1 + n }, p) (programs_from k (i + 1) homes ps) rest.0 rest.1 in
      (next.0, next.1 ∙ ap (λ j. Some (record { 0 = j }, p)) (omega arith))
