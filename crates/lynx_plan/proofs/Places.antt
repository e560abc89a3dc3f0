-- The first place of a byte, as a search tells it.
use Rattle.std.proofs.Common.{◌≡◌, ℕ, ◌<◌, Bool, true, false, cond, ltb, List, length, get_or, Option, Some, None, refl, inl, inr, arith}
use Rattle.std.specs.Prelude.{IfSome}
use Rattle.std.specs.List.{position, position_or_len}
use Rattle.std.proofs.lemmas.Bool.{ltb-true, lt-ltb, cases_lt}
use Rattle.std.proofs.lemmas.List.Sums.{passes_at_first, fails_before_first}
use Rattle.memchr.specs.Find.{IsFirstByte, Nowhere, Passes}

not_both : (b : Bool) → b ≡ true → b ≡ false → ⊥
not_both true t f = absurd cc
not_both false t f = absurd cc

none_within : (test : ℕ → Bool) (text : List ℕ) (b : Bool) → ltb (position_or_len test text) (length text) ≡ b → Nowhere (Passes test text) 0 (length text) → cond b (Some (position_or_len test text)) None ≡ None
none_within test text true e none = absurd (none (position_or_len test text) (omega arith) (ltb-true _ _ e) (passes_at_first test text 0 (ltb-true _ _ e)))
none_within test text false e none = refl

same_place : (test : ℕ → Bool) (text : List ℕ) (k : ℕ) → k < length text → Nowhere (Passes test text) 0 k → Passes test text k → position_or_len test text ≡ k
same_place test text k lt before passes =
    elim (cases_lt (position_or_len test text) k) [
      | inl less ↦ absurd (before (position_or_len test text) (omega arith) less (passes_at_first test text 0 (omega arith)))
      | inr most ↦ elim (cases_lt k (position_or_len test text)) [
        | inl more ↦ absurd (not_both (test (get_or text k 0)) passes (fails_before_first test text k 0 more))
        | inr least ↦ omega arith
      ]
    ]

pub found_first : (test : ℕ → Bool) (text : List ℕ) (r : Option ℕ) → IsFirstByte test text r → position test text ≡ r
found_first test text None is = none_within test text (ltb (position_or_len test text) (length text)) refl is
found_first test text (Some k) is =
    rw (same_place test text k is.0.high is.0.before is.1, lt-ltb k (length text) is.0.high) refl

pub found_within : (test : ℕ → Bool) (text : List ℕ) (r : Option ℕ) → IsFirstByte test text r → IfSome r (λ at. at < length text)
found_within test text None is = tt
found_within test text (Some k) is = is.0.high
