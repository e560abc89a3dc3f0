-- Numbers of 64 bits.
use Rattle.std.proofs.Common.{arith, ◌≡◌, ℤ, pos, negsuc, true, false, Ok, Err, FitsSigned, int_div, ap, if◌then◌else◌}
use Rattle.std.specs.Int.{w64}
use Rattle.std.specs.Ordering.{int_eq}
use Rattle.typing_rules.specs.declared.exception.Exception.TheVariants as exceptions
use Rattle.lynx_meaning.specs.Values.{Int, is_int, within, divide}

fits-is_int : (n : ℤ) → FitsSigned w64 n → is_int n ≡ true
fits-is_int (pos n) fits = grind (arith, fits)
fits-is_int (negsuc n) fits = grind (arith, fits)

not_fits-is_int : (n : ℤ) → (FitsSigned w64 n → ⊥) → is_int n ≡ false
not_fits-is_int (pos n) fits = grind (arith, fits)
not_fits-is_int (negsuc n) fits = grind (arith, fits)

pub in_range : (n : ℤ) → FitsSigned w64 n → within n ≡ Ok (Int n)
in_range n fits = ap (λ b. if b then Ok (Int n) else Err exceptions.Overflow) (fits-is_int n fits)

pub out_of_range : (n : ℤ) → (FitsSigned w64 n → ⊥) → within n ≡ Err exceptions.Overflow
out_of_range n fits = ap (λ b. if b then Ok (Int n) else Err exceptions.Overflow) (not_fits-is_int n fits)

-- a quotient where there is one
pub divided : (a b : ℤ) → int_eq b (pos 0) ≡ false → divide a b ≡ within (int_div a b)
divided a b other = ap (λ z. if z then Err exceptions.Divide else within (int_div a b)) other
