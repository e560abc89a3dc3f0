-- Which pieces are the longest at their place, by what follows them.
use Rattle.std.proofs.Common.{◌≡◌, ℕ, ◌≤◌, true, List, [], ◌∷◌, ◌++◌, length, leb, refl, sym, ap, ◌∙◌, subst, arith, append_assoc, length-append, ◌⊎◌, inl, inr}
use Rattle.std.specs.List.{list_all}
use Rattle.std.proofs.lemmas.Bool.{leb-true}
use Rattle.lynx_lexer.specs.Bytes.{class_of}
use Rattle.lynx_lexer.specs.Words.{sign_of}
use Rattle.lynx_lexer.specs.Pieces.{IsLongest, is_name_byte, is_digit, is_text_byte, is_comment_byte}
use Rattle.lynx_lexer.specs.declared.class.Class.TheVariants.{Blank, Letter, Digit, Underscore, Quote, Other}
use Rattle.lynx_lexer.specs.declared.sign.Sign.{Sign}
use Rattle.lynx_lexer.specs.declared.sign.Sign.TheVariants as signs
use Rattle.lynx_lexer.proofs.Runs.{Stops, run_longest}
use Rattle.lynx_lexer.proofs.Shapes.{Shape, blank, comment, word, number, quoted, sign, shape, class_of_dash, class_of_quote}

-- ---- the shape at a byte of a known class

pub at_blank : (b : ℕ) (bs : List ℕ) → class_of b ≡ Blank → Shape b bs → bs ≡ []
at_blank b bs k (blank c e) = e
at_blank b bs k (comment line c d e all) = absurd cc
at_blank b bs k (word c all) = absurd cc
at_blank b bs k (number c all) = absurd cc
at_blank b bs k (quoted inside c all e) = absurd cc
at_blank b bs k (sign s c e) = absurd cc

pub at_letter : (b : ℕ) (bs : List ℕ) → class_of b ≡ Letter → Shape b bs → list_all is_name_byte bs ≡ true
at_letter b bs k (blank c e) = absurd cc
at_letter b bs k (comment line c d e all) = absurd cc
at_letter b bs k (word c all) = all
at_letter b bs k (number c all) = absurd cc
at_letter b bs k (quoted inside c all e) = absurd cc
at_letter b bs k (sign s c e) = absurd cc

pub at_digit : (b : ℕ) (bs : List ℕ) → class_of b ≡ Digit → Shape b bs → list_all is_digit bs ≡ true
at_digit b bs k (blank c e) = absurd cc
at_digit b bs k (comment line c d e all) = absurd cc
at_digit b bs k (word c all) = absurd cc
at_digit b bs k (number c all) = all
at_digit b bs k (quoted inside c all e) = absurd cc
at_digit b bs k (sign s c e) = absurd cc

pub at_quote : (b : ℕ) (bs : List ℕ) → class_of b ≡ Quote → Shape b bs → (inside : List ℕ) × (list_all is_text_byte inside ≡ true) × (bs ≡ inside ++ 39 ∷ [])
at_quote b bs k (blank c e) = absurd cc
at_quote b bs k (comment line c d e all) = absurd cc
at_quote b bs k (word c all) = absurd cc
at_quote b bs k (number c all) = absurd cc
at_quote b bs k (quoted inside c all e) = (inside, all, e)
at_quote b bs k (sign s c e) = absurd cc

pub at_other : (b : ℕ) (bs : List ℕ) → class_of b ≡ Other → Shape b bs → ((line : List ℕ) × (b ≡ 45) × (bs ≡ 45 ∷ line) × (list_all is_comment_byte line ≡ true)) ⊎ ((s : Sign) × (b ∷ bs ≡ sign_of s))
at_other b bs k (blank c e) = absurd cc
at_other b bs k (comment line c d e all) = inl (line, d, e, all)
at_other b bs k (word c all) = absurd cc
at_other b bs k (number c all) = absurd cc
at_other b bs k (quoted inside c all e) = absurd cc
at_other b bs k (sign s c e) = inr (s, e)

pub at_underscore : (b : ℕ) (bs : List ℕ) → class_of b ≡ Underscore → Shape b bs → ⊥
at_underscore b bs k (blank c e) = cc
at_underscore b bs k (comment line c d e all) = cc
at_underscore b bs k (word c all) = cc
at_underscore b bs k (number c all) = cc
at_underscore b bs k (quoted inside c all e) = cc
at_underscore b bs k (sign s c e) = cc

-- ---- the longest

longest : (b : ℕ) (bs rest : List ℕ) → ((cs more : List ℕ) → bs ++ rest ≡ cs ++ more → Shape b cs → length cs ≤ length bs) → IsLongest (b ∷ bs) rest
longest b bs rest shorter piece [] more e h = omega arith
longest b bs rest shorter piece (c ∷ cs) more e h =
    let heads : b ≡ c = cc in
    let tails : bs ++ rest ≡ cs ++ more = cc in
    omega (arith, shorter cs more tails (subst (λ (d : ℕ). Shape d cs) (sym heads) (shape piece c cs h)))

pub longest_blank : (b : ℕ) (rest : List ℕ) → class_of b ≡ Blank → IsLongest (b ∷ []) rest
longest_blank b rest k = longest b [] rest (λ cs more e s. omega (arith, ap length (at_blank b cs k s)))

pub longest_word : (b : ℕ) (bs rest : List ℕ) → class_of b ≡ Letter → Stops is_name_byte rest → IsLongest (b ∷ bs) rest
longest_word b bs rest k stops = longest b bs rest (λ cs more e s. run_longest is_name_byte bs rest cs more e stops (at_letter b cs k s))

pub longest_number : (b : ℕ) (bs rest : List ℕ) → class_of b ≡ Digit → Stops is_digit rest → IsLongest (b ∷ bs) rest
longest_number b bs rest k stops = longest b bs rest (λ cs more e s. run_longest is_digit bs rest cs more e stops (at_digit b cs k s))

longest_quoted : (inside rest cs more other : List ℕ) → (inside ++ 39 ∷ []) ++ rest ≡ cs ++ more → cs ≡ other ++ 39 ∷ [] → list_all is_text_byte other ≡ true → length cs ≤ length (inside ++ 39 ∷ [])
longest_quoted inside rest cs more other e is all =
    let left : (inside ++ 39 ∷ []) ++ rest ≡ inside ++ (39 ∷ rest) = append_assoc inside (39 ∷ []) rest in
    let right : cs ++ more ≡ other ++ (39 ∷ more) = ap (λ (x : List ℕ). x ++ more) is ∙ append_assoc other (39 ∷ []) more in
    let short : length other ≤ length inside = run_longest is_text_byte inside (39 ∷ rest) other (39 ∷ more) (sym left ∙ e ∙ right) refl all in
    omega (arith, short, length-append inside (39 ∷ []), ap length is, length-append other (39 ∷ []))

pub longest_text : (inside rest : List ℕ) → IsLongest (39 ∷ inside ++ 39 ∷ []) rest
longest_text inside rest = longest 39 (inside ++ 39 ∷ []) rest (λ cs more e s. let other = at_quote 39 cs class_of_quote s in longest_quoted inside rest cs more other.0 e other.2 other.1)

short_sign : (s : Sign) → leb (length (sign_of s)) 2 ≡ true
short_sign signs.Minus = refl
short_sign _ = refl

pub length-sign_of-le : (s : Sign) → length (sign_of s) ≤ 2
length-sign_of-le s = leb-true _ _ (short_sign s)

pub longest_comment : (line rest : List ℕ) → Stops is_comment_byte rest → IsLongest (45 ∷ 45 ∷ line) rest
longest_comment line rest stops = longest 45 (45 ∷ line) rest (λ cs more e s.
    elim (at_other 45 cs class_of_dash s) [
      | inl found ↦ (let other : List ℕ = found.0 in
          let is : cs ≡ 45 ∷ other = found.2 in
          let joined : 45 ∷ line ++ rest ≡ 45 ∷ other ++ more = e ∙ ap (λ (x : List ℕ). x ++ more) is in
          let tails : line ++ rest ≡ other ++ more = cc in
          omega (arith, ap length is, run_longest is_comment_byte line rest other more tails stops found.3))
      | inr found ↦ omega (arith, ap length found.1, length-sign_of-le found.0)
    ])

pub longest_sign : (s : Sign) (b : ℕ) (bs rest : List ℕ) → b ∷ bs ≡ sign_of s → class_of b ≡ Other → ((line : List ℕ) → sign_of s ++ rest ≡ 45 ∷ 45 ∷ line → ⊥)
    → ((t : Sign) (more : List ℕ) → sign_of s ++ rest ≡ sign_of t ++ more → length (sign_of t) ≤ length (sign_of s)) → IsLongest (b ∷ bs) rest
longest_sign s b bs rest is k no_comment no_longer = longest b bs rest (λ cs more e sh.
    let whole : sign_of s ++ rest ≡ b ∷ (cs ++ more) = ap (λ (x : List ℕ). x ++ rest) (sym is) ∙ ap (λ (x : List ℕ). b ∷ x) e in
    elim (at_other b cs k sh) [
      | inl found ↦ absurd (no_comment (found.0 ++ more) (whole ∙ (λ i. found.1 i ∷ (found.2 i ++ more))))
      | inr found ↦ omega (arith, ap length found.1, ap length is, no_longer found.0 more (whole ∙ ap (λ (x : List ℕ). x ++ more) found.1))
    ])
