-- The programs on a kernel: each is that of a process whose home it is, and no two are of one process.
use Rattle.std.proofs.Common.{◌≡◌, ◌≢◌, ◌⊎◌, inl, inr, ℕ, zero, suc, ◌<◌, ◌≤◌, ◌+◌, arith, Bool, true, false, nat_eq, List, [], ◌∷◌, length, get_or, Some, None, refl, ap, sym, subst, ◌∙◌}
use Rattle.std.specs.Prelude.{slice_get}
use Rattle.std.proofs.lemmas.Bool.Decides.{eqb_tells}
use Rattle.charlotte_calls.specs.declared.names.Pid.{Pid}
use Rattle.node_start.specs.Homes.{programs_from, with_one}

few-with : {X : Type 0} (b : Bool) (x : X) (xs : List X) → length (with_one b x xs) ≤ suc (length xs)
few-with true x xs = omega arith
few-with false x xs = omega arith

module _ {P : Type 0} (k : ℕ) where
  -- it is that of a process at this place behind the first
  pub record IsOf (i : ℕ) (homes : List ℕ) (ps : List P) (x : Pid × P) : Type 0 where
    pub place : ℕ
    pub below : place < length homes
    pub number : x.0.0 ≡ i + place
    pub home : get_or homes place 0 ≡ k
    pub program : slice_get ps place ≡ Some x.1

  later : (i home : ℕ) (homes : List ℕ) (p : P) (ps : List P) (x : Pid × P) → IsOf (i + 1) homes ps x → IsOf i (home ∷ homes) (p ∷ ps) x
  later i home homes p ps x of =
      record { place = suc of.place; below = omega (arith, of.below); number = omega (arith, of.number); home = of.home; program = of.program }

  pub on-at : (i : ℕ) (homes : List ℕ) (ps : List P) (n : ℕ) (x : Pid × P) → slice_get (programs_from k i homes ps) n ≡ Some x → IsOf i homes ps x
  on-at i [] ps n x at = absurd (let none : None ≡ Some x = at in cc)
  on-at i (home ∷ homes) [] n x at = absurd (let none : None ≡ Some x = at in cc)
  on-at i (home ∷ homes) (p ∷ ps) n x at = by (eqb_tells home k) n (λ m rest. later i home homes p ps x (on-at (i + 1) homes ps m x rest)) at
    where
      by : ((nat_eq home k ≡ true) × (home ≡ k)) ⊎ ((nat_eq home k ≡ false) × (home ≢ k)) → (n : ℕ)
          → ((m : ℕ) → slice_get (programs_from k (i + 1) homes ps) m ≡ Some x → IsOf i (home ∷ homes) (p ∷ ps) x)
          → slice_get (with_one (nat_eq home k) (record { 0 = i }, p) (programs_from k (i + 1) homes ps)) n ≡ Some x → IsOf i (home ∷ homes) (p ∷ ps) x
      by (inl e) n more at = here n (ap (λ b. slice_get (with_one b (record { 0 = i }, p) (programs_from k (i + 1) homes ps)) n) (sym e.0) ∙ at)
        where
          here : (n : ℕ) → slice_get ((record { 0 = i }, p) ∷ programs_from k (i + 1) homes ps) n ≡ Some x → IsOf i (home ∷ homes) (p ∷ ps) x
          here zero is =
              let same : (record { 0 = i }, p) ≡ x = let both : Some (record { 0 = i }, p) ≡ Some x = is in cc in
              record { place = 0; below = omega arith; number = ap (λ (y : Pid × P). y.0.0) (sym same) ∙ omega arith; home = e.1; program = ap (λ (y : Pid × P). Some y.1) same }
          here (suc m) is = more m is
      by (inr e) n more at = more n (ap (λ b. slice_get (with_one b (record { 0 = i }, p) (programs_from k (i + 1) homes ps)) n) (sym e.0) ∙ at)

  pub on-few : (i : ℕ) (homes : List ℕ) (ps : List P) → length (programs_from k i homes ps) ≤ length homes
  on-few i [] ps = omega arith
  on-few i (home ∷ homes) [] = omega arith
  on-few i (home ∷ homes) (p ∷ ps) = omega (arith, few-with (nat_eq home k) (record { 0 = i }, p) (programs_from k (i + 1) homes ps), on-few (i + 1) homes ps)

  -- no two programs are of one process
  abbrev pub AreApart : List (Pid × P) → Type 0
  AreApart xs = (a b : ℕ) (x y : Pid × P) → slice_get xs a ≡ Some x → slice_get xs b ≡ Some y → x.0 ≡ y.0 → a ≡ b

  apart-with : (b : Bool) (x : Pid × P) (xs : List (Pid × P)) → ((n : ℕ) (y : Pid × P) → slice_get xs n ≡ Some y → x.0.0 < y.0.0) → AreApart xs → AreApart (with_one b x xs)
  apart-with false x xs below apart = apart
  apart-with true x xs below apart = by
    where
      by : AreApart (x ∷ xs)
      by zero zero y z first second same = refl
      by zero (suc n) y z first second same =
          let is : x ≡ y = let both : Some x ≡ Some y = first in cc in
          let later = below n z second in
          absurd (omega (arith, later, ap (λ (w : Pid × P). w.0.0) is, ap (λ (p : Pid). p.0) same))
      by (suc n) zero y z first second same =
          let is : x ≡ z = let both : Some x ≡ Some z = second in cc in
          let later = below n y first in
          absurd (omega (arith, later, ap (λ (w : Pid × P). w.0.0) is, ap (λ (p : Pid). p.0) same))
      by (suc n) (suc m) y z first second same = ap suc (apart n m y z first second same)

  pub on-apart : (i : ℕ) (homes : List ℕ) (ps : List P) → AreApart (programs_from k i homes ps)
  on-apart i [] ps = λ a b x y at is same. absurd (let none : None ≡ Some x = at in cc)
  on-apart i (home ∷ homes) [] = λ a b x y at is same. absurd (let none : None ≡ Some x = at in cc)
  on-apart i (home ∷ homes) (p ∷ ps) =
      apart-with (nat_eq home k) (record { 0 = i }, p) (programs_from k (i + 1) homes ps)
      (λ n y at. let of = on-at (i + 1) homes ps n y at in omega (arith, of.number)) (on-apart (i + 1) homes ps)
