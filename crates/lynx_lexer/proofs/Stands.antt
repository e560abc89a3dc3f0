-- What a run of bytes at the front is.
use Rattle.std.proofs.Common.{◌≡◌, ◌≢◌, ℕ, suc, ◌+◌, ◌<◌, ◌≤◌, ◌^◌, ◌&&◌, Bool, true, false, List, [], ◌∷◌, ◌++◌, length, take, drop, get_or, ℤ, Some, None, pos, refl, sym, ap, ◌∙◌, subst, arith, inl, inr, eqb}
use Rattle.std.specs.Prelude.{codes, nat_eq}
use Rattle.std.specs.List.{list_all, prefix_len, starts_with}
use Rattle.std.proofs.lemmas.Bool.{lt-ltb, le-ltb, cases_lt, false≢true, eqb-true}
use Rattle.std.proofs.lemmas.Bool.Decides.{nat_tests}
use Rattle.std.proofs.lemmas.List.{take-append-drop, length-take-le, take_at, drop_at, length-append, take_more, drop_more, drop_all}
use Rattle.std.proofs.lemmas.List.Sums.{prefix_len-le-length}
use Rattle.lynx_lexer.specs.Bytes.{class_of}
use Rattle.lynx_lexer.specs.Words.{word_of, sign_of}
use Rattle.lynx_lexer.specs.Pieces.{IsToken, IsLongest, goes_on_name, is_name_byte, is_digit, is_text_byte, is_comment_byte, decimal, limit_passed}
use Rattle.lynx_lexer.specs.Source.{HasFault, CutsText}
use Rattle.lynx_lexer.specs.Fronts.{StandsAt, Begins, IsLongestSign}
use Rattle.lynx_lexer.specs.declared.class.Class.{Class}
use Rattle.lynx_lexer.specs.declared.class.Class.TheVariants.{Blank, Letter, Digit, Underscore, Quote, Other}
use Rattle.lynx_lexer.specs.declared.fault.FaultKind.TheVariants.{BadByte, OpenText, NumberTooWide, TextTooLong, NameTooLong}
use Rattle.lynx_lexer.specs.declared.keyword.Keyword.{Keyword}
use Rattle.lynx_lexer.specs.declared.sign.Sign.{Sign}
use Rattle.lynx_lexer.specs.declared.sign.Sign.TheVariants as signs
use Rattle.lynx_lexer.specs.declared.token.Kind.TheVariants as kinds
use Rattle.lynx_lexer.proofs.Runs.{Stops, both_true, prefix_len-yes, run_passes, run_stops}
use Rattle.lynx_lexer.proofs.Longest.{longest_blank, longest_word, longest_number, longest_text, longest_comment, longest_sign, at_underscore, at_other}
use Rattle.lynx_lexer.proofs.Shapes.{shape}
use Rattle.lynx_lexer.proofs.WordLemmas.{first_class, first_class-sign_of}

-- a first byte of the class, and the bytes behind it that pass
pub record Run (p : ℕ → Bool) (class : Class) (n : ℕ) (bytes : List ℕ) : Type 0 where
  pub some : 0 < n
  pub fits : n ≤ length bytes
  pub first : ℕ
  pub others : List ℕ
  pub text : take n bytes ≡ first ∷ others
  pub begins : class_of first ≡ class
  pub passes : list_all p others ≡ true
  pub stops : Stops p (drop n bytes)

run_of : (p : ℕ → Bool) (class : Class) (b : ℕ) (bs : List ℕ) → class_of b ≡ class → p b ≡ true → Run p class (suc (prefix_len p bs)) (b ∷ bs)
run_of p class b bs k passed = record {
  some = omega arith;
  fits = omega (arith, prefix_len-le-length p bs);
  first = b;
  others = take (prefix_len p bs) bs;
  text = refl;
  begins = k;
  passes = run_passes p bs;
  stops = run_stops p bs;
}

run_at : (p : ℕ → Bool) (class : Class) (bytes : List ℕ) (n : ℕ) → ((b : ℕ) → class_of b ≡ class → p b ≡ true) → Begins class bytes → n ≡ prefix_len p bytes → Run p class n bytes
run_at p class [] n all begins e = absurd (omega (arith, begins.some))
run_at p class (b ∷ bs) n all begins e =
    let k : class_of b ≡ class = begins.first in
    let passed : p b ≡ true = all b k in
    subst (λ (m : ℕ). Run p class m (b ∷ bs)) (sym (e ∙ prefix_len-yes p b bs passed)) (run_of p class b bs k passed)

-- ---- names and keywords

word_run : (bytes : List ℕ) (n : ℕ) → Begins Letter bytes → n ≡ prefix_len is_name_byte bytes → Run is_name_byte Letter n bytes
word_run bytes n begins e = run_at is_name_byte Letter bytes n (λ b k. ap goes_on_name k) begins e

word_longest : (bytes : List ℕ) (n : ℕ) (r : Run is_name_byte Letter n bytes) → IsLongest (take n bytes) (drop n bytes)
word_longest bytes n r = subst (λ (t : List ℕ). IsLongest t (drop n bytes)) (sym r.text) (longest_word r.first r.others (drop n bytes) r.begins r.stops)

pub keyword_stands : (bytes : List ℕ) (n : ℕ) (keyword : Keyword) → Begins Letter bytes → n ≡ prefix_len is_name_byte bytes → take n bytes ≡ word_of keyword → StandsAt (Some (kinds.Keyword keyword)) n bytes
keyword_stands bytes n keyword begins e is =
    let r = word_run bytes n begins e in
    record { some = r.some; fits = r.fits; piece = is; longest = word_longest bytes n r; within = refl }

name_piece : (bytes : List ℕ) (n : ℕ) (r : Run is_name_byte Letter n bytes) → ((keyword : Keyword) → take n bytes ≢ word_of keyword) → IsToken (kinds.Name (take n bytes)) (take n bytes)
name_piece bytes n r unlike = (refl, (r.first, r.others, r.begins, r.passes, r.text), unlike)

pub name_stands : (bytes : List ℕ) (n : ℕ) → Begins Letter bytes → n ≡ prefix_len is_name_byte bytes → ((keyword : Keyword) → take n bytes ≢ word_of keyword) → n ≤ 32 → StandsAt (Some (kinds.Name (take n bytes))) n bytes
name_stands bytes n begins e unlike short =
    let r = word_run bytes n begins e in
    let few : length (take n bytes) ≤ 32 = omega (arith, length-take-le n bytes r.fits, short) in
    let within : limit_passed (kinds.Name (take n bytes)) ≡ None = rw (le-ltb 32 (length (take n bytes)) few) refl in
    record { some = r.some; fits = r.fits; piece = name_piece bytes n r unlike; longest = word_longest bytes n r; within = within }

pub name_too_long : (bytes : List ℕ) (n : ℕ) → Begins Letter bytes → n ≡ prefix_len is_name_byte bytes → ((keyword : Keyword) → take n bytes ≢ word_of keyword) → 32 < n → HasFault NameTooLong bytes
name_too_long bytes n begins e unlike long =
    let r = word_run bytes n begins e in
    let many : 32 < length (take n bytes) = omega (arith, length-take-le n bytes r.fits, long) in
    let passed : limit_passed (kinds.Name (take n bytes)) ≡ Some NameTooLong = rw (lt-ltb 32 (length (take n bytes)) many) refl in
    (kinds.Name (take n bytes), take n bytes, drop n bytes, sym (take-append-drop n bytes), name_piece bytes n r unlike, word_longest bytes n r, passed)

-- ---- numbers

pub digit_of_class : (b : ℕ) → class_of b ≡ Digit → is_digit b ≡ true
unfolding class_of
digit_of_class b k = grind (arith, nat_tests)

digits_run : (bytes : List ℕ) (n : ℕ) → Begins Digit bytes → n ≡ prefix_len is_digit bytes → Run is_digit Digit n bytes
digits_run bytes n begins e = run_at is_digit Digit bytes n digit_of_class begins e

number_longest : (bytes : List ℕ) (n : ℕ) (r : Run is_digit Digit n bytes) → IsLongest (take n bytes) (drop n bytes)
number_longest bytes n r = subst (λ (t : List ℕ). IsLongest t (drop n bytes)) (sym r.text) (longest_number r.first r.others (drop n bytes) r.begins r.stops)

number_piece : (bytes : List ℕ) (n : ℕ) (r : Run is_digit Digit n bytes) → IsToken (kinds.Number (pos (decimal (take n bytes)))) (take n bytes)
number_piece bytes n r = ((r.first, r.others, r.begins, r.passes, r.text), refl)

-- what a digits' run requires of the number behind it
pub digits_pass : (bytes : List ℕ) (n : ℕ) → Begins Digit bytes → n ≡ prefix_len is_digit bytes → list_all is_digit (take n bytes) ≡ true
digits_pass bytes n begins e = ap (λ (m : ℕ). list_all is_digit (take m bytes)) e ∙ run_passes is_digit bytes

pub number_stands : (bytes : List ℕ) (n : ℕ) (z : ℤ) → Begins Digit bytes → n ≡ prefix_len is_digit bytes → z ≡ pos (decimal (take n bytes)) → decimal (take n bytes) < 2 ^ 63 → StandsAt (Some (kinds.Number z)) n bytes
number_stands bytes n z begins e is fits =
    let r = digits_run bytes n begins e in
    let within : limit_passed (kinds.Number (pos (decimal (take n bytes)))) ≡ None = rw (le-ltb 9223372036854775807 (decimal (take n bytes)) (omega arith)) refl in
    let stands : StandsAt (Some (kinds.Number (pos (decimal (take n bytes))))) n bytes = record { some = r.some; fits = r.fits; piece = number_piece bytes n r; longest = number_longest bytes n r; within = within } in
    subst (λ (t : ℤ). StandsAt (Some (kinds.Number t)) n bytes) (sym is) stands

pub number_too_wide : (bytes : List ℕ) (n : ℕ) → Begins Digit bytes → n ≡ prefix_len is_digit bytes → 2 ^ 63 ≤ decimal (take n bytes) → HasFault NumberTooWide bytes
number_too_wide bytes n begins e wide =
    let r = digits_run bytes n begins e in
    let passed : limit_passed (kinds.Number (pos (decimal (take n bytes)))) ≡ Some NumberTooWide = rw (lt-ltb 9223372036854775807 (decimal (take n bytes)) (omega arith)) refl in
    (kinds.Number (pos (decimal (take n bytes))), take n bytes, drop n bytes, sym (take-append-drop n bytes), number_piece bytes n r, number_longest bytes n r, passed)

-- ---- blanks, and bytes with which nothing begins

pub blank_stands : (bytes : List ℕ) → Begins Blank bytes → StandsAt None 1 bytes
blank_stands [] begins = absurd (omega (arith, begins.some))
blank_stands (b ∷ bs) begins = record {
  some = omega arith;
  fits = omega arith;
  piece = inl (b, begins.first, refl);
  longest = longest_blank b bs begins.first;
  within = tt;
}

pub nothing_begins : (bytes : List ℕ) → Begins Underscore bytes → HasFault BadByte bytes
nothing_begins [] begins = absurd (omega (arith, begins.some))
nothing_begins (b ∷ bs) begins = (b, bs, refl, (λ piece more h. at_underscore b more begins.first (shape piece b more h)))

-- ---- texts

quote_of_class : (b : ℕ) → class_of b ≡ Quote → b ≡ 39
unfolding class_of
quote_of_class b k = grind (arith, nat_tests)

-- n bytes between two quotes
closed_text : (b : ℕ) (bs : List ℕ) (n : ℕ) (inside : List ℕ) → b ≡ 39 → n < length bs → get_or bs n 0 ≡ 39 → inside ≡ take n bs → take (n + 2) (b ∷ bs) ≡ 39 ∷ inside ++ 39 ∷ []
closed_text b bs n inside q within closed is =
    let more : take (n + 1) bs ≡ inside ++ 39 ∷ [] = take_more bs n 0 within ∙ (λ i. sym is i ++ closed i ∷ []) in
    let two : n + 2 ≡ suc (n + 1) = omega arith in
    ap (λ (m : ℕ). take m (b ∷ bs)) two ∙ (λ i. q i ∷ more i)

cut_text : (bs : List ℕ) (n : ℕ) → Stops is_text_byte (drop n bs) → (n < length bs → get_or bs n 0 ≢ 39) → CutsText (drop n bs)
cut_text bs n stops unclosed =
    elim (cases_lt n (length bs)) [
      | inl lt ↦ (let is : drop n bs ≡ get_or bs n 0 ∷ drop (n + 1) bs = drop_more bs n 0 lt in
          subst CutsText (sym is) (subst (Stops is_text_byte) is stops, unclosed lt))
      | inr le ↦ subst CutsText (sym (drop_all n bs le)) tt
    ]

pub text_stands : (bytes : List ℕ) (n : ℕ) → Begins Quote bytes → n ≡ prefix_len is_text_byte (drop 1 bytes) → n < length (drop 1 bytes) → get_or (drop 1 bytes) n 0 ≡ 39
    → n ≤ 64 → StandsAt (Some (kinds.Text (take n (drop 1 bytes)))) (n + 2) bytes
text_stands [] n begins e within closed short = absurd (omega (arith, begins.some))
text_stands (b ∷ bs) n begins e within closed short =
    let q : b ≡ 39 = quote_of_class b begins.first in
    let inside : List ℕ = take n bs in
    let parts : take (n + 2) (b ∷ bs) ≡ 39 ∷ inside ++ 39 ∷ [] = closed_text b bs n inside q within closed refl in
    let passes : list_all is_text_byte inside ≡ true = ap (λ (m : ℕ). list_all is_text_byte (take m bs)) e ∙ run_passes is_text_byte bs in
    let few : length inside ≤ 64 = omega (arith, length-take-le n bs (omega (arith, within)), short) in
    record {
      some = omega arith;
      fits = omega arith;
      piece = (passes, parts);
      longest = subst (λ (t : List ℕ). IsLongest t (drop (n + 2) (b ∷ bs))) (sym parts) (longest_text inside (drop (n + 2) (b ∷ bs)));
      within = rw (le-ltb 64 (length inside) few) refl;
    }

pub text_too_long : (bytes : List ℕ) (n : ℕ) → Begins Quote bytes → n ≡ prefix_len is_text_byte (drop 1 bytes) → n < length (drop 1 bytes) → get_or (drop 1 bytes) n 0 ≡ 39 → 64 < n → HasFault TextTooLong bytes
text_too_long [] n begins e within closed long = absurd (omega (arith, begins.some))
text_too_long (b ∷ bs) n begins e within closed long =
    let q : b ≡ 39 = quote_of_class b begins.first in
    let inside : List ℕ = take n bs in
    let parts : take (n + 2) (b ∷ bs) ≡ 39 ∷ inside ++ 39 ∷ [] = closed_text b bs n inside q within closed refl in
    let passes : list_all is_text_byte inside ≡ true = ap (λ (m : ℕ). list_all is_text_byte (take m bs)) e ∙ run_passes is_text_byte bs in
    let many : 64 < length inside = omega (arith, length-take-le n bs (omega (arith, within)), long) in
    let passed : limit_passed (kinds.Text inside) ≡ Some TextTooLong = rw (lt-ltb 64 (length inside) many) refl in
    (kinds.Text inside, 39 ∷ inside ++ 39 ∷ [], drop (n + 2) (b ∷ bs), sym (ap (λ (t : List ℕ). t ++ drop (n + 2) (b ∷ bs)) (sym parts) ∙ take-append-drop (n + 2) (b ∷ bs)), (passes, refl), longest_text inside (drop (n + 2) (b ∷ bs)), passed)

pub open_text : (bytes : List ℕ) (n : ℕ) → Begins Quote bytes → n ≡ prefix_len is_text_byte (drop 1 bytes) → (n < length (drop 1 bytes) → get_or (drop 1 bytes) n 0 ≢ 39) → HasFault OpenText bytes
open_text [] n begins e unclosed = absurd (omega (arith, begins.some))
open_text (b ∷ bs) n begins e unclosed =
    let q : b ≡ 39 = quote_of_class b begins.first in
    let passes : list_all is_text_byte (take n bs) ≡ true = ap (λ (m : ℕ). list_all is_text_byte (take m bs)) e ∙ run_passes is_text_byte bs in
    let stops : Stops is_text_byte (drop n bs) = subst (λ (m : ℕ). Stops is_text_byte (drop m bs)) (sym e) (run_stops is_text_byte bs) in
    (take n bs, drop n bs, passes, cut_text bs n stops unclosed, (λ i. q i ∷ sym (take-append-drop n bs) i))

-- ---- comments and signs

pub comment_stands : (bytes : List ℕ) (n : ℕ) → starts_with nat_eq bytes (codes "--") ≡ true → n ≡ prefix_len is_comment_byte (drop 2 bytes) → StandsAt None (2 + n) bytes
comment_stands [] n begins e = absurd cc
comment_stands (a ∷ []) n begins e = absurd (false≢true (sym (and_false (eqb 45 a)) ∙ begins))
  where
    and_false : (t : Bool) → (t && false) ≡ false
    and_false true = refl
    and_false false = refl
comment_stands (a ∷ b ∷ bs) n begins e =
    let first = both_true (eqb 45 a) (eqb 45 b && true) begins in
    let second = both_true (eqb 45 b) true first.1 in
    let a-is : 45 ≡ a = eqb-true 45 a first.0 in
    let b-is : 45 ≡ b = eqb-true 45 b second.0 in
    let parts : take (2 + n) (a ∷ b ∷ bs) ≡ 45 ∷ 45 ∷ take n bs = ap (λ (m : ℕ). take m (a ∷ b ∷ bs)) two_more ∙ (λ i. sym a-is i ∷ sym b-is i ∷ take n bs) in
    let behind : drop (2 + n) (a ∷ b ∷ bs) ≡ drop n bs = ap (λ (m : ℕ). drop m (a ∷ b ∷ bs)) two_more in
    let passes : list_all is_comment_byte (take n bs) ≡ true = ap (λ (m : ℕ). list_all is_comment_byte (take m bs)) e ∙ run_passes is_comment_byte bs in
    let stops : Stops is_comment_byte (drop n bs) = subst (λ (m : ℕ). Stops is_comment_byte (drop m bs)) (sym e) (run_stops is_comment_byte bs) in
    record {
      some = omega arith;
      fits = omega (arith, e, prefix_len-le-length is_comment_byte bs);
      piece = inr (take n bs, passes, parts);
      longest = subst (λ (t : List ℕ). IsLongest t (drop (2 + n) (a ∷ b ∷ bs))) (sym parts) (subst (λ (t : List ℕ). IsLongest (45 ∷ 45 ∷ take n bs) t) (sym behind) (longest_comment (take n bs) (drop n bs) stops));
      within = tt;
    }
  where
    two_more : 2 + n ≡ suc (suc n)
    two_more = omega arith

not_comment : (bytes line : List ℕ) → starts_with nat_eq bytes (codes "--") ≡ false → bytes ≡ 45 ∷ 45 ∷ line → ⊥
not_comment bytes line unlike is = false≢true (sym unlike ∙ ap (λ (t : List ℕ). starts_with nat_eq t (codes "--")) is)

sign_longest : (s : Sign) (text rest : List ℕ) → text ≡ sign_of s → ((line : List ℕ) → sign_of s ++ rest ≡ 45 ∷ 45 ∷ line → ⊥)
    → ((t : Sign) (more : List ℕ) → sign_of s ++ rest ≡ sign_of t ++ more → length (sign_of t) ≤ length (sign_of s)) → (0 < length text) × IsLongest text rest
sign_longest s [] rest is unlike longest = absurd (let e : Underscore ≡ Other = ap first_class is ∙ first_class-sign_of s in cc)
sign_longest s (b ∷ bs) rest is unlike longest = (omega arith, longest_sign s b bs rest is (ap first_class is ∙ first_class-sign_of s) unlike longest)

pub sign_stands : (bytes : List ℕ) (s : Sign) → starts_with nat_eq bytes (codes "--") ≡ false → IsLongestSign s bytes → StandsAt (Some (kinds.Sign s)) (length (sign_of s)) bytes
sign_stands bytes s unlike h =
    let rest : List ℕ = h.stands.0 in
    let is : bytes ≡ sign_of s ++ rest = h.stands.1 in
    let front : take (length (sign_of s)) bytes ≡ sign_of s = ap (take (length (sign_of s))) is ∙ take_at (sign_of s) rest (length (sign_of s)) refl in
    let behind : drop (length (sign_of s)) bytes ≡ rest = ap (drop (length (sign_of s))) is ∙ drop_at (sign_of s) rest (length (sign_of s)) refl in
    let found = sign_longest s (sign_of s) rest refl (λ line e. not_comment bytes line unlike (is ∙ e)) (λ t more e. h.longest t more (is ∙ e)) in
    record {
      some = found.0;
      fits = omega (arith, ap length is, length-append (sign_of s) rest);
      piece = front;
      longest = subst (λ (t : List ℕ). IsLongest t (drop (length (sign_of s)) bytes)) (sym front) (subst (λ (t : List ℕ). IsLongest (sign_of s) t) (sym behind) found.1);
      within = refl;
    }

-- the first byte of a sign is a sign
head_sign : (s : Sign) → (t : Sign) × (sign_of t ≡ take 1 (sign_of s))
head_sign signs.Becomes = (signs.Colon, refl)
head_sign signs.NotEqual = (signs.Less, refl)
head_sign signs.AtMost = (signs.Less, refl)
head_sign signs.AtLeast = (signs.Greater, refl)
head_sign s = (s, refl)

pub no_mark : (bytes : List ℕ) → Begins Other bytes → ((s : Sign) (rest : List ℕ) → bytes ≢ sign_of s ++ rest) → HasFault BadByte bytes
no_mark [] begins unlike = absurd (omega (arith, begins.some))
no_mark (b ∷ bs) begins unlike = (
  b,
  bs,
  refl,
  (λ piece more h.
      elim (at_other b more begins.first (shape piece b more h)) [
        | inl found ↦ unlike signs.Minus bs (λ i. found.1 i ∷ bs)
        | inr found ↦ (let t = head_sign found.0 in
            let one : b ∷ [] ≡ sign_of t.0 = ap (take 1) found.1 ∙ sym t.1 in
            unlike t.0 bs (ap (λ (x : List ℕ). x ++ bs) one))
      ]),
)
