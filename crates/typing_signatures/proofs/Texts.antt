-- The texts of names and of types have no sign of a signature in them, and tell what they are of: 40 is `(`, 41 is `)` and 44 is `,`.
use Rattle.std.proofs.Common.{◌≡◌, ℕ, ℤ, pos, negsuc, suc, ◌<◌, ◌≤◌, ◌^◌, List, [], ◌∷◌, ◌++◌, Bool, true, false, ◌==◌, if◌then◌else◌}
use Rattle.std.proofs.Common.{drop, refl, sym, ap, ◌∙◌, subst, leb, arith, true≢false}
use Rattle.std.specs.Fmt.{decimal, signed_decimal}
use Rattle.std.specs.Int.Signed.{mag}
use Rattle.std.specs.List.{AllByRecursion, list_all}
use Rattle.std.specs.Str.Parse.{AllDigits}
use Rattle.std.proofs.lemmas.Bool.{and_parts, eq-eqb, leb-false, leb-true, lt-leb, ne_eqb}
use Rattle.std.proofs.lemmas.Fmt.{decimal_is_IsNumeral, signed_decimal_injective}
use Rattle.std.proofs.lemmas.Str.Parse.{tells_digits}
use Rattle.lynx_lexer.specs.Bytes.{class_of, is_blank}
use Rattle.lynx_lexer.specs.Pieces.{goes_on_name, is_name_byte}
use Rattle.lynx_lexer.specs.declared.class.Class.TheVariants.{Blank, Quote, Other}
use Rattle.lynx_tree.specs.declared.declaration.TypeName.{TypeName}
use Rattle.lynx_tree.specs.declared.declaration.TypeName.TheVariants as types
use Rattle.typing_rules.specs.Signatures.{type_text, more_types_text, types_text}
use Rattle.typing_signatures.specs.Facts.{IsName}
use Rattle.typing_signatures.specs.Law.{FitsI64}
use Rattle.typing_signatures.proofs.Cuts.{Above, Stops, above_both, above_lower, cut}

-- ---- no sign stands in a part

digits_above : (ds : List ℕ) → AllDigits 10 ds → Above 44 ds
digits_above [] are = tt
digits_above (d ∷ ds) are = let parts = tells_digits.parts d ds are in (omega (arith, parts.0.0), digits_above ds parts.1)

decimal_above : (n : ℕ) → n < 2 ^ 64 → Above 44 (decimal n)
decimal_above n fits = digits_above (decimal n) (decimal_is_IsNumeral n fits).0.1

signed_above : (n : ℤ) → mag n < 2 ^ 63 → Above 44 (signed_decimal n)
signed_above (pos n) fits = decimal_above n (omega (arith, fits))
signed_above (negsuc n) fits = (omega arith, decimal_above (suc n) (omega (arith, fits)))

type_above : (t : TypeName) → FitsI64 t → Above 44 (type_text t)
type_above types.Int is = (omega arith, (omega arith, (omega arith, tt)))
type_above types.Bool is = (omega arith, (omega arith, (omega arith, (omega arith, tt))))
type_above types.Text is = (omega arith, (omega arith, (omega arith, (omega arith, tt))))
type_above types.Link is = (omega arith, (omega arith, (omega arith, (omega arith, tt))))
type_above (types.Row n) is = (omega arith, (omega arith, (omega arith, signed_above n is.sfits)))

more_above : (ts : List TypeName) → AllByRecursion FitsI64 ts → Above 41 (more_types_text ts)
more_above [] are = tt
more_above (t ∷ ts) are =
    let here = above_lower 44 41 (type_text t) (omega arith) (type_above t are.0) in
    (omega arith, above_both 41 (type_text t) (more_types_text ts) here (more_above ts are.1))

types_above : (ts : List TypeName) → AllByRecursion FitsI64 ts → Above 41 (types_text ts)
types_above [] are = tt
types_above (t ∷ ts) are = (more_above (t ∷ ts) are).1

-- what no letter, digit or underscore is
no_name_byte : (blank quote : Bool) → goes_on_name (if blank then Blank else (if quote then Quote else Other)) ≡ false
no_name_byte true quote = refl
no_name_byte false true = refl
no_name_byte false false = refl

not_underscore : (b : ℕ) → b ≤ 40 → (b == 95) ≡ false
not_underscore b low = ne_eqb b 95 (λ e. omega (arith, low, e))

low_byte : (b : ℕ) → b ≤ 40 → is_name_byte b ≡ false
unfolding class_of
low_byte b low =
    rw (lt-leb 65 b (omega (arith, low))) (rw (lt-leb 97 b (omega (arith, low))) (rw (lt-leb 48 b (omega (arith, low))) (
    rw (not_underscore b low) (no_name_byte (is_blank b) (b == 39)))))

above_by : (b : ℕ) (least : Bool) → leb b 40 ≡ least → is_name_byte b ≡ true → 40 < b
above_by b true low is = absurd (true≢false (sym is ∙ low_byte b (leb-true b 40 low)))
above_by b false high is = leb-false b 40 high

name_byte_above : (b : ℕ) → is_name_byte b ≡ true → 40 < b
name_byte_above b is = above_by b (leb b 40) refl is

name_bytes_above : (bs : List ℕ) → list_all is_name_byte bs ≡ true → Above 40 bs
name_bytes_above [] are = tt
name_bytes_above (b ∷ bs) are =
    let parts = and_parts (is_name_byte b) (list_all is_name_byte bs) are in
    (name_byte_above b parts.0, name_bytes_above bs parts.1)

pub name_above : (name : List ℕ) → IsName name → Above 40 name
name_above name is =
    subst (Above 40) (sym is.1.4) (name_byte_above is.1.0 (ap goes_on_name is.1.2), name_bytes_above is.1.1 is.1.3)

-- ---- a type is told by its text, and so are types

abbrev first : List ℕ → ℕ
first [] = 0
first (b ∷ bs) = b

apart : (xs ys : List ℕ) → (first xs == first ys) ≡ false → xs ≡ ys → ⊥
apart xs ys other e = true≢false (sym (eq-eqb (first xs) (first ys) (ap first e)) ∙ other)

same_type : (t u : TypeName) → FitsI64 t → FitsI64 u → type_text t ≡ type_text u → t ≡ u
same_type types.Int types.Int t-is u-is e = refl
same_type types.Bool types.Bool t-is u-is e = refl
same_type types.Text types.Text t-is u-is e = refl
same_type types.Link types.Link t-is u-is e = refl
same_type (types.Row n) (types.Row m) t-is u-is e = ap types.Row (signed_decimal_injective n m t-is.sfits u-is.sfits (ap (drop 3) e))
same_type t u t-is u-is e = absurd (apart (type_text t) (type_text u) refl e)

more_stops : (ts : List TypeName) → Stops 44 (more_types_text ts)
more_stops [] = tt
more_stops (t ∷ ts) = omega arith

same_more : (ts us : List TypeName) → AllByRecursion FitsI64 ts → AllByRecursion FitsI64 us → more_types_text ts ≡ more_types_text us → ts ≡ us
same_more [] [] ts-are us-are e = refl
same_more [] (u ∷ us) ts-are us-are e = cc
same_more (t ∷ ts) [] ts-are us-are e = cc
same_more (t ∷ ts) (u ∷ us) ts-are us-are e =
    let t-above = type_above t ts-are.0 in
    let u-above = type_above u us-are.0 in
    let parts = cut 44 (type_text t) (type_text u) _ _ t-above u-above (more_stops ts) (more_stops us) (ap (drop 1) e) in
    let here = same_type t u ts-are.0 us-are.0 parts.0 in
    let others = same_more ts us ts-are.1 us-are.1 parts.1 in
    λ i. here i ∷ others i

some_text : (t : TypeName) (bs : List ℕ) → [] ≡ type_text t ++ bs → ⊥
some_text types.Int bs e = cc
some_text _ bs e = cc

same_types : (ts us : List TypeName) → AllByRecursion FitsI64 ts → AllByRecursion FitsI64 us → types_text ts ≡ types_text us → ts ≡ us
same_types [] [] ts-are us-are e = refl
same_types [] (u ∷ us) ts-are us-are e = absurd (some_text u (more_types_text us) e)
same_types (t ∷ ts) [] ts-are us-are e = absurd (some_text t (more_types_text ts) (sym e))
same_types (t ∷ ts) (u ∷ us) ts-are us-are e = same_more (t ∷ ts) (u ∷ us) ts-are us-are (ap (λ (text : List ℕ). 44 ∷ text) e)

-- types up to a sign are told, and so is what follows them
pub first_types : (ts us : List TypeName) (rs ss : List ℕ) → AllByRecursion FitsI64 ts → AllByRecursion FitsI64 us → Stops 41 rs → Stops 41 ss
    → types_text ts ++ rs ≡ types_text us ++ ss → (ts ≡ us) × (rs ≡ ss)
first_types ts us rs ss ts-are us-are rs-stop ss-stop e =
    let parts = cut 41 (types_text ts) (types_text us) rs ss (types_above ts ts-are) (types_above us us-are) rs-stop ss-stop e in
    (same_types ts us ts-are us-are parts.0, parts.1)
