-- Words of different lengths are different.
use Rattle.std.proofs.Common.{◌≡◌, ℕ, Bool, true, false, List, length, refl, ap}
use Rattle.std.specs.Cmp.Lexicographic.{bytes_decides}
use Rattle.std.specs.Str.{bytes_eq}

not_true : (b : Bool) → (b ≡ true → ⊥) → b ≡ false
not_true true other = absurd (other refl)
not_true false other = refl

pub other_length : (x y : List ℕ) → (length x ≡ length y → ⊥) → bytes_eq x y ≡ false
other_length x y other = not_true (bytes_eq x y) (λ same. other (ap length ((bytes_decides x y).0 same)))
