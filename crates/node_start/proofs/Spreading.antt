-- Programs are given to the lists of their kernels, one after the other.
use Rattle.std.proofs.Common.{◌≡◌, ◌≢◌, ◌⊎◌, inl, inr, ℕ, ◌<◌, ◌+◌, arith, Bool, true, false, nat_eq, List, [], ◌∷◌, ◌++◌, length, map, drop, set, get_or, All, refl, ap, sym, subst, ◌∙◌, append_assoc, append-nil}
use Rattle.std.proofs.lemmas.Bool.{eq-eqb}
use Rattle.std.proofs.lemmas.Bool.Decides.{eqb_tells}
use Rattle.std.proofs.lemmas.List.{drop_more, get_or-set_same, get_or-set_other, length-set}
use Rattle.charlotte_calls.specs.declared.names.Pid.{Pid}
use Rattle.charlotte_calls.specs.declared.setting.Setting.{Setting}
use Rattle.node_start.specs.Homes.{programs_from, programs_on, with_one}

-- those before this number are in the lists
pub record AreSpread {P : Type 0} (s : Setting) (all : List P) (number : ℕ) (rest : List P) (lists : List (List (Pid × P))) : Type 0 where
  pub kernels : length lists ≡ s.kernels
  pub count : number + length rest ≡ length s.homes
  pub each : (k : ℕ) → k < s.kernels → get_or lists k [] ++ programs_from k number (drop number s.homes) rest ≡ programs_on s all k

none-left : {P : Type 0} (k number : ℕ) (homes : List ℕ) → programs_from {P = P} k number homes [] ≡ []
none-left k number [] = refl
none-left k number (home ∷ homes) = refl

pub spread-all : {P : Type 0} (s : Setting) (all : List P) (number : ℕ) (lists : List (List (Pid × P))) → AreSpread s all number [] lists → (k : ℕ) → k < s.kernels
    → get_or lists k [] ≡ programs_on s all k
spread-all s all number lists are k below =
    sym (append-nil (get_or lists k [])) ∙ ap (λ ps. get_or lists k [] ++ ps) (sym (none-left k number (drop number s.homes))) ∙ are.each k below

pub spread-none : {P : Type 0} (s : Setting) (all : List P) (lists : List (List (Pid × P))) → length lists ≡ s.kernels → length all ≡ length s.homes
    → ((k : ℕ) → get_or lists k [] ≡ []) → AreSpread s all 0 all lists
spread-none s all lists kernels count empty = record { kernels = kernels; count = omega (arith, count); each = λ k below. ap (λ ps. ps ++ programs_on s all k) (empty k) }

module _ {P : Type 0} (s : Setting) (all : List P) (number : ℕ) (p : P) (rest : List P) (lists : List (List (Pid × P))) (are : AreSpread s all number (p ∷ rest) lists) where
  pub home-there : number < length s.homes
  home-there = omega (arith, are.count)

  pub spread-more : (home : ℕ) → home ≡ get_or s.homes number 0 → home < s.kernels
      → AreSpread s all (number + 1) rest (set lists home (get_or lists home [] ++ (record { 0 = number }, p) ∷ []))
  spread-more home is below =
      record {
        kernels = length-set lists home _ ∙ are.kernels;
        count = omega (arith, are.count);
        each = λ k there. at k there (eqb_tells home k);
      }
    where
      one : Pid × P
      one = (record { 0 = number }, p)

      more : ℕ → List (Pid × P)
      more k = programs_from k (number + 1) (drop (number + 1) s.homes) rest

      before : (k : ℕ) → k < s.kernels → get_or lists k [] ++ with_one (nat_eq home k) one (more k) ≡ programs_on s all k
      before k there =
          ap (λ h. get_or lists k [] ++ with_one (nat_eq h k) one (more k)) is
          ∙ ap (λ hs. get_or lists k [] ++ programs_from k number hs (p ∷ rest)) (sym (drop_more s.homes number 0 home-there))
          ∙ are.each k there

      home-below : home < length lists
      home-below = omega (arith, below, are.kernels)

      at : (k : ℕ) → k < s.kernels → ((nat_eq home k ≡ true) × (home ≡ k)) ⊎ ((nat_eq home k ≡ false) × (home ≢ k))
          → get_or (set lists home (get_or lists home [] ++ one ∷ [])) k [] ++ more k ≡ programs_on s all k
      at k there (inl e) =
          ap (λ xs. xs ++ more k)
          (ap (λ i. get_or (set lists home (get_or lists home [] ++ one ∷ [])) i []) (sym e.1) ∙ get_or-set_same lists home (get_or lists home [] ++ one ∷ []) [] home-below
          ∙ ap (λ i. get_or lists i [] ++ one ∷ []) e.1)
          ∙ append_assoc (get_or lists k []) (one ∷ []) (more k)
          ∙ ap (λ b. get_or lists k [] ++ with_one b one (more k)) (sym e.0)
          ∙ before k there
      at k there (inr e) =
          ap (λ xs. xs ++ more k) (get_or-set_other lists home k (get_or lists home [] ++ one ∷ []) [] (λ same. e.1 (sym same)))
          ∙ ap (λ b. get_or lists k [] ++ with_one b one (more k)) (sym e.0)
          ∙ before k there
