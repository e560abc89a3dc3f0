-- Tables that grow by a name.
use Rattle.std.proofs.Common.{◌≡◌, ℕ, ◌+◌, ◌<◌, List, [], ◌∷◌, ◌++◌, length, Bool, true, false, Option, None, Some, refl, sym, ap, ◌∙◌, arith, length-append}
use Rattle.std.proofs.lemmas.Option.{none-some, same_Some}
use Rattle.std.specs.Prelude.{if◌then◌else◌, option_map}
use Rattle.std.specs.Str.{bytes_eq}
use Rattle.lynx_code.specs.Modules.{place_in}
use Rattle.compiler_emission.specs.declared.places.Places.{Places}
use Rattle.compiler_emission.specs.Places.{found, first_of, IsTableOf}

later : (b c : Bool) (p : Option ℕ) (k : ℕ) → (if b then Some 0 else option_map (λ n. n + 1) (first_of p (if c then Some k else None))) ≡ first_of (if b then Some 0 else option_map (λ n. n + 1) p) (if c then Some (k + 1) else None)
later true c p k = refl
later false c (Some x) k = refl
later false true None k = refl
later false false None k = refl

-- a name at the end has the next place, where it has none before
pub place_behind : (names : List (List ℕ)) (n q : List ℕ) → place_in (names ++ n ∷ []) q ≡ first_of (place_in names q) (if bytes_eq n q then Some (length names) else None)
place_behind [] n q = refl
place_behind (x ∷ xs) n q =
    ap (λ p. if bytes_eq x q then Some 0 else option_map (λ k. k + 1) p) (place_behind xs n q) ∙ later (bytes_eq x q) (bytes_eq n q) (place_in xs q) (length xs)
    ∙ ap (λ k. first_of (place_in (x ∷ xs) q) (if bytes_eq n q then Some k else None)) (omega arith)

pub grown : (names : List (List ℕ)) (n : List ℕ) (old new : Places) → IsTableOf names old → new.count ≡ old.count + 1
    → ((q : List ℕ) → found new q ≡ first_of (found old q) (if bytes_eq n q then Some old.count else None)) → IsTableOf (names ++ n ∷ []) new
grown names n old new h count places = record {
  count = count ∙ ap (λ k. k + 1) h.count ∙ omega (arith, length-append names (n ∷ []));
  places = λ q.
      places q ∙ ap (λ p. first_of p (if bytes_eq n q then Some old.count else None)) (h.places q) ∙ ap (λ k. first_of (place_in names q) (if bytes_eq n q then Some k else None)) h.count
      ∙ sym (place_behind names n q);
}

-- ---- places are fewer than names

within : (b : Bool) (p : Option ℕ) (k : ℕ) → ((q : ℕ) → p ≡ Some q → q < k) → (place : ℕ) → (if b then Some 0 else option_map (λ n. n + 1) p) ≡ Some place → place < k + 1
within true p k h place is = omega (arith, same_Some 0 place is)
within false None k h place is = absurd (none-some place is)
within false (Some q) k h place is = omega (arith, h q refl, same_Some (q + 1) place is)

place_within : (names : List (List ℕ)) (name : List ℕ) (place : ℕ) → place_in names name ≡ Some place → place < length names
place_within [] name place is = absurd (none-some place is)
place_within (n ∷ names) name place is = omega (arith, within (bytes_eq n name) (place_in names name) (length names) (place_within names name) place is)

pub short : (names : List (List ℕ)) (table : Places) → IsTableOf names table → length names < 65536 → (name : List ℕ) (place : ℕ) → found table name ≡ Some place → place < 65536
short names table is few name place there = omega (arith, few, place_within names name place (sym (is.places name) ∙ there))
