-- Numbers and their digits.
use Rattle.std.proofs.Common.{◌≡◌, ℕ, zero, suc, ◌^◌, ◌<◌, ◌≤◌, ◌+◌, ◌-◌, ◌/◌, ◌%◌, Bool, true, false, cond, not, eqb, ltb, ◌||◌, List, [], ◌∷◌, ◌++◌, length, get_or, Result, Ok, Err, refl, sym, ap, ◌∙◌, arith, rules, ◌⊎◌, inl, inr}
use Rattle.std.specs.List.{list_all}
use Rattle.std.specs.Char.{is_ascii_digit}
use Rattle.std.specs.Str.{IsUtf8}
use Rattle.std.specs.Str.Parse.{digits_value, ParsesUnsigned}
use Rattle.std.proofs.lemmas.Str.{IsUtf8-from_ascii}
use Rattle.std.proofs.lemmas.Str.Parse.{IsNumeralModel, numerals_by_value, parse_digits, not_in_digits}
use Rattle.std.proofs.lemmas.Fmt.{IsAscii-from_digits, decimal-digits_value, decimal_digit, decimal_step, first_decimal, decimal_nonempty, digits_decimal, digits_value-decimal}
use Rattle.std.proofs.lemmas.List.{get_or_default}
use Rattle.std.specs.List.{All}
use Rattle.std.specs.Int.{IsInRange}
use Rattle.std.proofs.lemmas.Result.{OkIff-at_err}
use Rattle.std.proofs.lemmas.Bool.{ltb-true, leb-true, eqb-true, lt-ltb, ne_eqb, and_parts, and_from}
use Rattle.charlotte_text.specs.declared.number.Number.{Number}
use Rattle.charlotte_text.specs.declared.number.Number.TheVariants.{Is, Large}
use Rattle.charlotte_text.specs.declared.fault.Fault.TheVariants.{Form}
use Rattle.charlotte_text.specs.Spelling.{number_text}
use Rattle.charlotte_text.specs.Reading.{is_number, sized, number_of, below, number_below}
use Rattle.charlotte_text.proofs.Steps.{bind_ok, ok_is, not_ok, held}

abbrev pub AreDigits : List ℕ → Type 0
AreDigits ds = list_all is_ascii_digit ds ≡ true

pub own : IsNumeralModel AreDigits (digits_value 10)
own = numerals_by_value AreDigits (search rules)

-- the digits of a number
pub digits_of_number : (ds : List ℕ) → is_number ds ≡ true → AreDigits ds
digits_of_number [] e = absurd cc
digits_of_number (b ∷ bs) e = (and_parts _ _ e).0

pub number_long : (ds : List ℕ) → is_number ds ≡ true → 0 < length ds
number_long [] e = absurd cc
number_long (b ∷ bs) e = omega arith

pub text_of_number : (ds : List ℕ) → is_number ds ≡ true → IsUtf8 ds
text_of_number ds e = IsUtf8-from_ascii ds (IsAscii-from_digits ds (own.to ds (digits_of_number ds e)))

is_sized : (n : ℕ) (b : Bool) → ltb n (2 ^ 64) ≡ b → (n < 2 ^ 64 → ⊥) → Large ≡ cond b (Is n) Large
is_sized n true t h = absurd (h (ltb-true _ _ t))
is_sized n false t h = refl

pub large_number : {E : Type 0} (ds : List ℕ) (r : Result ℕ E) (d : E) → is_number ds ≡ true → ParsesUnsigned 64 10 ds r → r ≡ Err d → Large ≡ sized (digits_value 10 ds)
large_number {E} ds r d e parsed failed =
    let h = parse_digits own 64 ds r parsed (digits_of_number ds e) in
    is_sized (digits_value 10 ds) (ltb (digits_value 10 ds) (2 ^ 64)) refl (λ lt. OkIff-at_err r _ (digits_value 10 ds) d h failed (number_long ds e, lt))

-- ---- what is read is spelled so, and what is spelled so is read

not_zero : (b : ℕ) → not (eqb b 48) ≡ true → b ≡ 48 → ⊥
not_zero b h z = let k : not (eqb 48 48) ≡ true = rw z at h in cc

first_zero : (b : ℕ) (bs : List ℕ) → (eqb (length bs) 0 || not (eqb b 48)) ≡ true → b ≡ 48 → length (b ∷ bs) ≡ 1
first_zero b bs e z =
    elim (eqb (length bs) 0) as (λ t. eqb (length bs) 0 ≡ t → (t || not (eqb b 48)) ≡ true → length (b ∷ bs) ≡ 1) [
      | true ↦ λ l h. ap suc (eqb-true _ _ l)
      | false ↦ λ l h. absurd (not_zero b h z)
    ] refl e

leading : (ds : List ℕ) → is_number ds ≡ true → get_or ds 0 0 ≡ 48 → length ds ≡ 1
leading [] e z = absurd cc
leading (b ∷ bs) e z = first_zero b bs (and_parts _ _ e).1 z

nat_is : (m n : ℕ) (b : Bool) → ltb m (2 ^ 64) ≡ b → cond b (Is m) Large ≡ Is n → (m < 2 ^ 64) × (m ≡ n)
nat_is m n true t e = (ltb-true _ _ t, cc)
nat_is m n false t e = absurd cc

pub number_takes : (w : List ℕ) (n : ℕ) → number_of w ≡ Ok (Is n) → (w ≡ number_text n) × (n < 2 ^ 64)
unfolding number_of
number_takes w n e =
    let h = held (is_number w) (Ok (sized (digits_value 10 w))) Form (Is n) e in
    let v = nat_is (digits_value 10 w) n (ltb (digits_value 10 w) (2 ^ 64)) refl (ok_is (sized (digits_value 10 w)) (Is n) h.1) in
    let same : number_text (digits_value 10 w) ≡ w = decimal-digits_value own w (digits_of_number w h.0) (number_long w h.0) (leading w h.0) v.0 in
    (sym same ∙ ap number_text v.1, rw (← v.1) v.0)

no_more : (n : ℕ) → suc n ≡ 1 → (eqb n 0 || false) ≡ true
no_more zero e = refl
no_more (suc n) e = absurd (omega arith)

or_true : (b : Bool) → (b || true) ≡ true
or_true true = refl
or_true false = refl

is_number_from : (ds : List ℕ) → AreDigits ds → 0 < length ds → (get_or ds 0 0 ≡ 48 → length ds ≡ 1) → is_number ds ≡ true
is_number_from [] d l z = absurd (omega arith)
is_number_from (b ∷ bs) d l z =
    and_from _ _ d (elim (eqb b 48) as (λ t. eqb b 48 ≡ t → (eqb (length bs) 0 || not t) ≡ true) [
      | true ↦ λ e. no_more (length bs) (z (eqb-true _ _ e))
      | false ↦ λ e. or_true (eqb (length bs) 0)
    ] refl)

pub decimal_zero : (n : ℕ) → n < 2 ^ 64 → get_or (number_text n) 0 0 ≡ 48 → length (number_text n) ≡ 1
decimal_zero zero lt e = ap length (decimal_digit 0 (omega arith))
decimal_zero (suc n) lt e = absurd (omega (arith, first_decimal (suc n) (omega arith) lt))

pub is_number_text : (n : ℕ) → n < 2 ^ 64 → is_number (number_text n) ≡ true
is_number_text n lt = is_number_from (number_text n) (digits_decimal own n lt) (decimal_nonempty n lt) (decimal_zero n lt)

pub number_again : (n : ℕ) → n < 2 ^ 64 → number_of (number_text n) ≡ Ok (Is n)
unfolding number_of
number_again n lt = rw (is_number_text n lt, digits_value-decimal own n lt, lt-ltb n (2 ^ 64) lt) refl

-- a number of two digits
pub two_digits : (n : ℕ) → 10 ≤ n → n < 100 → number_text n ≡ (48 + n / 10) ∷ (48 + n % 10) ∷ []
two_digits n h small = rw (decimal_step n h (omega arith), decimal_digit (n / 10) (omega arith)) refl

-- numbers of three, four and five digits
pub three_digits : (n : ℕ) → 100 ≤ n → n < 1000 → number_text n ≡ (48 + n / 10 / 10) ∷ (48 + n / 10 % 10) ∷ (48 + n % 10) ∷ []
three_digits n h small = rw (decimal_step n (omega arith) (omega arith), two_digits (n / 10) (omega arith) (omega arith)) refl

pub four_digits : (n : ℕ) → 1000 ≤ n → n < 10000 → number_text n ≡ (48 + n / 10 / 10 / 10) ∷ (48 + n / 10 / 10 % 10) ∷ (48 + n / 10 % 10) ∷ (48 + n % 10) ∷ []
four_digits n h small = rw (decimal_step n (omega arith) (omega arith), three_digits (n / 10) (omega arith) (omega arith)) refl

pub five_digits : (n : ℕ) → 10000 ≤ n → n < 100000 → number_text n ≡ (48 + n / 10 / 10 / 10 / 10) ∷ (48 + n / 10 / 10 / 10 % 10) ∷ (48 + n / 10 / 10 % 10) ∷ (48 + n / 10 % 10) ∷ (48 + n % 10) ∷ []
five_digits n h small = rw (decimal_step n (omega arith) (omega arith), four_digits (n / 10) (omega arith) (omega arith)) refl

-- a digit and a byte behind it
pub digit_before : (n b : ℕ) → n < 10 → number_text n ++ b ∷ [] ≡ (48 + n) ∷ b ∷ []
digit_before n b small = rw (decimal_digit n small) refl

digit_number : (d : ℕ) → 48 ≤ d → d ≤ 57 → number_of (d ∷ []) ≡ Ok (Is (d - 48))
digit_number d lo hi =
    let text : number_text (d - 48) ≡ d ∷ [] = decimal_digit (d - 48) (omega arith) ∙ ap (λ x. x ∷ []) (omega arith) in
    ap number_of (sym text) ∙ number_again (d - 48) (omega arith)

digit_is : (d : ℕ) (t : Bool) → is_ascii_digit d ≡ t → number_of (d ∷ []) ≡ cond t (Ok (Is (d - 48))) (Err Form)
unfolding number_of
digit_is d true e = let h = and_parts _ _ e in digit_number d (leb-true _ _ h.0) (leb-true _ _ h.1)
digit_is d false e = rw e refl

-- the number of one byte
pub one_digit_number : (d : ℕ) → number_of (d ∷ []) ≡ cond (is_ascii_digit d) (Ok (Is (d - 48))) (Err Form)
one_digit_number d = digit_is d (is_ascii_digit d) refl

below_ok : (limit : ℕ) (x : Number) (n : ℕ) → below limit x ≡ Ok n → (x ≡ Is n) × (n < limit)
below_ok limit (Is m) n e = let h = held (ltb m limit) (Ok m) Form n e in let same : m ≡ n = ok_is m n h.1 in (ap Is same, rw (← same) (ltb-true _ _ h.0))
below_ok limit Large n e = absurd (not_ok n Form e)

pub below_takes : (limit : ℕ) (w : List ℕ) (n : ℕ) → number_below limit w ≡ Ok n → (w ≡ number_text n) × (n < limit)
unfolding number_below
below_takes limit w n e =
    let a = bind_ok (number_of w) (below limit) n e in
    let b = below_ok limit a.0 n a.2 in
    ((number_takes w n (a.1 ∙ ap Ok b.0)).0, b.1)

pub below_again : (limit n : ℕ) → n < limit → n < 2 ^ 64 → number_below limit (number_text n) ≡ Ok n
unfolding number_below
below_again limit n lt small = rw (number_again n small, lt-ltb n limit lt) refl

out_of : (c : ℕ) → (c < 48) ⊎ (57 < c) → IsInRange 48 57 c → ⊥
out_of c (inl h) within = omega arith
out_of c (inr h) within = omega arith

-- no digit is another byte
pub no_digit : (c n : ℕ) → n < 2 ^ 64 → (c < 48) ⊎ (57 < c) → All (λ b. eqb b c ≡ false) (number_text n)
no_digit c n lt out = λ k d l. ne_eqb _ _ (rw (get_or_default (number_text n) k d 0 l) (not_in_digits own (number_text n) c (digits_decimal own n lt) (λ within. out_of c out within) k l))
