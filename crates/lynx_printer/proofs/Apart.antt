-- A token that a blank or a line feed follows is the longest at its place.
use Rattle.std.proofs.Common.{◌≡◌, ℕ, ◌+◌, ◌*◌, ◌-◌, ◌^◌, ◌<◌, ◌≤◌, true, false, eqb, List, [], ◌∷◌, ◌++◌, length, pos, refl, sym, ap, subst, ◌∙◌, arith, rules}
use Rattle.std.specs.List.{list_all, fold}
use Rattle.std.specs.Fmt.{decimal as written}
use Rattle.std.proofs.lemmas.Bool.{false≢true}
use Rattle.std.proofs.lemmas.Bool.Decides.{nat_tests}
use Rattle.std.proofs.lemmas.Str.Parse.{IsNumeralModel, numerals_by_fold}
use Rattle.std.proofs.lemmas.Fmt.{digits_decimal, digits_value-decimal, decimal_is_IsNumeral}
use Rattle.lynx_lexer.specs.Bytes.{class_of}
use Rattle.lynx_lexer.specs.Words.{sign_of}
use Rattle.lynx_lexer.specs.Pieces.{IsToken, IsLongest, IsDigits, goes_on_name, is_digit, decimal}
use Rattle.lynx_lexer.specs.declared.class.Class.TheVariants.{Blank, Letter, Digit, Underscore, Other}
use Rattle.lynx_lexer.specs.declared.sign.Sign.{Sign}
use Rattle.lynx_lexer.specs.declared.sign.Sign.TheVariants as signs
use Rattle.lynx_lexer.specs.declared.token.Kind.{Kind}
use Rattle.lynx_lexer.specs.declared.token.Kind.TheVariants as kinds
use Rattle.lynx_lexer.proofs.WordLemmas.{first_class, first_class-word_of, first_class-sign_of}
use Rattle.lynx_lexer.proofs.Runs.{all_head, all_tail}
use Rattle.lynx_lexer.proofs.Longest.{longest_word, longest_number, longest_text, longest_sign}

no_digit : (b : ℕ) → class_of b ≡ Blank → is_digit b ≡ false
unfolding class_of
no_digit b k = grind (arith, nat_tests)

words_apart : (text rest : List ℕ) (b : ℕ) → first_class text ≡ Letter → class_of b ≡ Blank → IsLongest text (b ∷ rest)
words_apart [] rest b f k = absurd (let e : Underscore ≡ Letter = f in cc)
words_apart (c ∷ cs) rest b f k = longest_word c cs (b ∷ rest) f (ap goes_on_name k)

numbers_apart : (text rest : List ℕ) (b : ℕ) → first_class text ≡ Digit → class_of b ≡ Blank → IsLongest text (b ∷ rest)
numbers_apart [] rest b f k = absurd (let e : Underscore ≡ Digit = f in cc)
numbers_apart (c ∷ cs) rest b f k = longest_number c cs (b ∷ rest) f (no_digit b k)

-- a sign is one byte, or two of which the first is no `-`
data SignShape (text : List ℕ) : Type 0 where
  one : (x : ℕ) → text ≡ x ∷ [] → SignShape text
  two : (x y : ℕ) → text ≡ x ∷ y ∷ [] → class_of y ≡ Other → eqb x 45 ≡ false → SignShape text

shape_of : (s : Sign) → SignShape (sign_of s)
unfolding class_of
shape_of signs.Becomes = two 58 61 refl refl refl
shape_of signs.NotEqual = two 60 62 refl refl refl
shape_of signs.AtMost = two 60 61 refl refl refl
shape_of signs.AtLeast = two 62 61 refl refl refl
shape_of signs.Semicolon = one 59 refl
shape_of signs.Dot = one 46 refl
shape_of signs.Open = one 40 refl
shape_of signs.Close = one 41 refl
shape_of signs.Colon = one 58 refl
shape_of signs.Comma = one 44 refl
shape_of signs.OpenRow = one 91 refl
shape_of signs.CloseRow = one 93 refl
shape_of signs.Equal = one 61 refl
shape_of signs.Less = one 60 refl
shape_of signs.Greater = one 62 refl
shape_of signs.Plus = one 43 refl
shape_of signs.Minus = one 45 refl
shape_of signs.Times = one 42 refl
shape_of signs.Over = one 47 refl

dash_is_other : class_of 45 ≡ Other
unfolding class_of
dash_is_other = refl

no_comment : (text rest line : List ℕ) (b : ℕ) → SignShape text → class_of b ≡ Blank → text ++ (b ∷ rest) ≡ 45 ∷ 45 ∷ line → ⊥
no_comment text rest line b (one x is) k e =
    let joined : x ∷ b ∷ rest ≡ 45 ∷ 45 ∷ line = ap (λ (t : List ℕ). t ++ (b ∷ rest)) (sym is) ∙ e in
    let dash : b ≡ 45 = cc in
    let classes : Blank ≡ Other = sym k ∙ ap class_of dash ∙ dash_is_other in
    cc
no_comment text rest line b (two x y is other unlike) k e =
    let joined : x ∷ y ∷ b ∷ rest ≡ 45 ∷ 45 ∷ line = ap (λ (t : List ℕ). t ++ (b ∷ rest)) (sym is) ∙ e in
    let dash : x ≡ 45 = cc in
    false≢true (sym unlike ∙ ap (λ (c : ℕ). eqb c 45) dash)

no_longer : (text other rest more : List ℕ) (b : ℕ) → SignShape text → SignShape other → class_of b ≡ Blank → text ++ (b ∷ rest) ≡ other ++ more → length other ≤ length text
no_longer text other rest more b (one x is) (one y os) k e = omega (arith, ap length is, ap length os)
no_longer text other rest more b (one x is) (two y z os class unlike) k e =
    let joined : x ∷ b ∷ rest ≡ y ∷ z ∷ more = ap (λ (t : List ℕ). t ++ (b ∷ rest)) (sym is) ∙ e ∙ ap (λ (t : List ℕ). t ++ more) os in
    let same : b ≡ z = cc in
    let classes : Blank ≡ Other = sym k ∙ ap class_of same ∙ class in
    absurd cc
no_longer text other rest more b (two x z is class unlike) (one y os) k e = omega (arith, ap length is, ap length os)
no_longer text other rest more b (two x z is class unlike) (two y w os class' unlike') k e = omega (arith, ap length is, ap length os)

signs_apart : (s : Sign) (text rest : List ℕ) (b : ℕ) → text ≡ sign_of s → class_of b ≡ Blank → IsLongest text (b ∷ rest)
signs_apart s [] rest b is k = absurd (let e : Underscore ≡ Other = ap first_class is ∙ first_class-sign_of s in cc)
signs_apart s (c ∷ cs) rest b is k =
    longest_sign s c cs (b ∷ rest) is (ap first_class is ∙ first_class-sign_of s) (λ line e. no_comment (sign_of s) rest line b (shape_of s) k e) (λ t more e. no_longer (sign_of s) (sign_of t) rest more b (shape_of s) (shape_of t) k e)

pub tokens_apart : (kind : Kind) (text rest : List ℕ) (b : ℕ) → IsToken kind text → class_of b ≡ Blank → IsLongest text (b ∷ rest)
tokens_apart (kinds.Keyword keyword) text rest b h k = words_apart text rest b (ap first_class h ∙ first_class-word_of keyword) k
tokens_apart (kinds.Sign s) text rest b h k = signs_apart s text rest b h k
tokens_apart (kinds.Name n) text rest b h k = words_apart text rest b (ap first_class h.1.4 ∙ h.1.2) k
tokens_apart (kinds.Number n) text rest b h k = numbers_apart text rest b (ap first_class h.0.4 ∙ h.0.2) k
tokens_apart (kinds.Text inside) text rest b h k = subst (λ (t : List ℕ). IsLongest t (b ∷ rest)) (sym h.1) (longest_text inside (b ∷ rest))

-- ---- numbers

numerals : IsNumeralModel (λ ds. list_all is_digit ds ≡ true) (λ ds. fold (λ n b. 10 * n + (b - 48)) 0 ds)
numerals = numerals_by_fold _ (search rules) (λ n ds. fold (λ n b. 10 * n + (b - 48)) n ds) (record {
  empty = λ n. refl;
  more = λ n c cs within. let turned : 10 * n + (c - 48) ≡ n * 10 + (c - 48) = omega arith in ap (λ (m : ℕ). fold (λ n b. 10 * n + (b - 48)) m cs) turned;
})

digit_class : (b : ℕ) → is_digit b ≡ true → class_of b ≡ Digit
unfolding class_of
digit_class b h = grind (arith, nat_tests)

some_digits : (text : List ℕ) → 0 < length text → list_all is_digit text ≡ true → IsDigits text
some_digits [] some all = absurd (omega arith)
some_digits (b ∷ bs) some all = (b, bs, digit_class b (all_head is_digit b bs all), all_tail is_digit b bs all, refl)

-- a number below 2 ^ 64 is spelled by its decimal digits
pub number_spelled : (n : ℕ) → n < 2 ^ 64 → IsToken (kinds.Number (pos n)) (written n)
number_spelled n fits =
    let digits : list_all is_digit (written n) ≡ true = digits_decimal numerals n fits in
    let value : decimal (written n) ≡ n = digits_value-decimal numerals n fits in
    (some_digits (written n) (decimal_is_IsNumeral n fits).0.0 digits, ap pos (sym value))
