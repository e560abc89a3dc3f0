-- What is packed comes back.
use Rattle.std.proofs.Common.{◌≡◌, ℕ, ◌+◌, ◌*◌, ◌/◌, ◌%◌, ◌<◌, Bool, true, false, cond, not, ◌&&◌, eqb, ltb, List, [], ◌∷◌, ◌++◌, length, append_assoc, append-nil, refl, sym, ap, ◌∙◌, arith}
use Rattle.std.proofs.lemmas.Bool.{and_parts, eqb-true, ltb-true, not-true}
use Rattle.std.proofs.lemmas.Bool.Decides.{nat_tests}
use Rattle.std.proofs.lemmas.List.{nil_from_length}
use Rattle.charlotte_text.specs.Spelling.{hex_digit}
use Rattle.charlotte_text.specs.Reading.{hex_value}
use Rattle.packed_lines.specs.Packed.{alone, behind_escape, code_text, code_value, coded, given, is_code, kept, literal, packed, packed_piece_at, packs, piece_at, piece_packed, piece_text, stands, unpacked}
use Rattle.packed_lines.specs.declared.piece.Piece.{Piece}

-- ---- one piece

digit_of_value : (b : ℕ) → hex_value b < 16 → hex_digit (hex_value b) ≡ b
digit_of_value b lt = grind (arith, nat_tests)

code-back : (h l : ℕ) → hex_value h < 16 → hex_value l < 16 → code_text (code_value h l) ≡ 37 ∷ h ∷ l ∷ []
code-back h l hs ls =
    let high : (16 * hex_value h + hex_value l) / 16 ≡ hex_value h = omega arith in
    let low : (16 * hex_value h + hex_value l) % 16 ≡ hex_value l = omega arith in
    rw (high, low, digit_of_value h hs, digit_of_value l ls) refl

alone-first : (b : ℕ) (t : List ℕ) → eqb b 90 ≡ false → unpacked (b ∷ t) ≡ piece_text (alone b) ++ unpacked t
unfolding unpacked
alone-first b [] e = refl
alone-first b (c ∷ t) e = rw e refl

escape-first : (b : ℕ) (t : List ℕ) → unpacked (90 ∷ b ∷ t) ≡ piece_text (behind_escape b) ++ unpacked t
unfolding unpacked
escape-first b t = refl

stands-not-escape : (b : ℕ) → stands b ≡ true → eqb b 90 ≡ false
stands-not-escape b s = grind (arith, nat_tests)

literal-back : (b : ℕ) (t : List ℕ) → unpacked (piece_packed (literal b) ++ t) ≡ b ∷ unpacked t
literal-back b t =
    elim (stands b) as (λ s. stands b ≡ s → unpacked (cond (cond s true (not true)) (b ∷ []) (90 ∷ b ∷ []) ++ t) ≡ b ∷ unpacked t) [
      | true ↦ λ s. alone-first b t (stands-not-escape b s) ∙ rw s refl
      | false ↦ λ s. escape-first b t ∙ rw s refl
    ] refl

coded-back : (v : ℕ) (t : List ℕ) → eqb v 90 ≡ false → unpacked (piece_packed (coded v) ++ t) ≡ code_text v ++ unpacked t
coded-back v t e =
    elim (stands v) as (λ s. stands v ≡ s → unpacked (cond (cond s false (not false)) (v ∷ []) (90 ∷ v ∷ []) ++ t) ≡ code_text v ++ unpacked t) [
      | true ↦ λ s. escape-first v t ∙ rw s refl
      | false ↦ λ s. alone-first v t e ∙ rw s refl
    ] refl

-- ---- a text

-- what a test of a code says
code-text : (b h l : ℕ) (t : List ℕ) → (eqb b 37 && is_code h l) ≡ true → (unpacked (piece_packed (coded (code_value h l)) ++ t) ≡ b ∷ h ∷ l ∷ unpacked t)
code-text b h l t is =
    let outer = and_parts (eqb b 37) (is_code h l) is in
    let code = and_parts (ltb (hex_value h) 16 && ltb (hex_value l) 16) (not (eqb (code_value h l) 90)) outer.1 in
    let digits = and_parts (ltb (hex_value h) 16) (ltb (hex_value l) 16) code.0 in
    coded-back (code_value h l) t (not-true _ code.1) ∙ ap (λ x. x ++ unpacked t) (code-back h l (ltb-true _ _ digits.0) (ltb-true _ _ digits.1)) ∙ ap (λ x. x ∷ h ∷ l ∷ unpacked t) (sym (eqb-true b 37 outer.0))

pub packed-nil : packed [] ≡ []
unfolding packed
packed-nil = refl

pub unpacked-nil : unpacked [] ≡ []
unfolding unpacked
unpacked-nil = refl

unpacked-packed : (t : List ℕ) → unpacked (packed t) ≡ t
unfolding packed
unpacked-packed [] = unpacked-nil
unpacked-packed (b ∷ []) = literal-back b [] ∙ ap (λ x. b ∷ x) unpacked-nil
unpacked-packed (b ∷ h ∷ []) = literal-back b (packed (h ∷ [])) ∙ ap (λ x. b ∷ x) (unpacked-packed (h ∷ []))
unpacked-packed (b ∷ h ∷ l ∷ rest) =
    elim (eqb b 37 && is_code h l) as (λ s. (eqb b 37 && is_code h l) ≡ s → unpacked (cond s (piece_packed (coded (code_value h l)) ++ packed rest) (piece_packed (literal b) ++ packed (h ∷ l ∷ rest))) ≡ b ∷ h ∷ l ∷ rest) [
      | true ↦ λ s. code-text b h l (packed rest) s ∙ ap (λ x. b ∷ h ∷ l ∷ x) (unpacked-packed rest)
      | false ↦ λ s. literal-back b (packed (h ∷ l ∷ rest)) ∙ ap (λ x. b ∷ x) (unpacked-packed (h ∷ l ∷ rest))
    ] refl

-- a line as it is kept gives its text
pub given-kept : (t : List ℕ) → given (packs t) (kept t) ≡ t
unfolding kept
given-kept t = elim (packs t) as (λ p. given p (cond p (packed t) t) ≡ t) [ true ↦ unpacked-packed t | false ↦ refl ]

pub kept-packed : (t : List ℕ) → packs t ≡ true → kept t ≡ packed t
unfolding kept
kept-packed t is = rw is refl

pub kept-plain : (t : List ℕ) → packs t ≡ false → kept t ≡ t
unfolding kept
kept-plain t is = rw is refl

-- what is noted of a line
pub note-half : (p : Bool) (n : ℕ) → (2 * n + cond p 1 0) / 2 ≡ n
note-half true n = omega arith
note-half false n = omega arith

pub note-odd : (p : Bool) (n : ℕ) → eqb ((2 * n + cond p 1 0) % 2) 1 ≡ p
note-odd true n =
    let odd : (2 * n + 1) % 2 ≡ 1 = omega arith in
    rw odd refl
note-odd false n =
    let even : (2 * n + 0) % 2 ≡ 0 = omega arith in
    rw even refl

-- ---- piece by piece, as the loops go

pub packed-first : (t : List ℕ) → 0 < length t → packed t ≡ piece_packed (piece_at t).0 ++ packed (piece_at t).1
unfolding packed
packed-first [] lt = absurd (omega arith)
packed-first (b ∷ []) lt = refl
packed-first (b ∷ h ∷ []) lt = refl
packed-first (b ∷ h ∷ l ∷ rest) lt =
    elim (eqb b 37
    && is_code h l) as (λ s. cond s (piece_packed (coded (code_value h l)) ++ packed rest) (piece_packed (literal b) ++ packed (h ∷ l ∷ rest))
    ≡ piece_packed (cond {A = Piece × List ℕ} s (coded (code_value h l), rest) (literal b, h ∷ l ∷ rest)).0 ++ packed (cond {A = Piece × List ℕ} s (coded (code_value h l), rest) (literal b, h ∷ l ∷ rest)).1)
    [ true ↦ refl | false ↦ refl ]

pub unpacked-first : (t : List ℕ) → 0 < length t → unpacked t ≡ piece_text (packed_piece_at t).0 ++ unpacked (packed_piece_at t).1
unfolding unpacked
unpacked-first [] lt = absurd (omega arith)
unpacked-first (b ∷ []) lt = refl
unpacked-first (b ∷ c ∷ rest) lt =
    elim (eqb b 90) as (λ s. cond s (piece_text (behind_escape c) ++ unpacked rest) (piece_text (alone b) ++ unpacked (c ∷ rest))
    ≡ piece_text (cond {A = Piece × List ℕ} s (behind_escape c, rest) (alone b, c ∷ rest)).0 ++ unpacked (cond {A = Piece × List ℕ} s (behind_escape c, rest) (alone b, c ∷ rest)).1)
    [ true ↦ refl | false ↦ refl ]

-- one piece more is appended
pub moved-on : (whole : List ℕ → List ℕ) (out new form rest behind total : List ℕ) → new ≡ out ++ form → whole rest ≡ form ++ whole behind → out ++ whole rest ≡ total → new ++ whole behind ≡ total
moved-on whole out new form rest behind total more first so_far =
    ap (λ x. x ++ whole behind) more ∙ append_assoc out form (whole behind) ∙ ap (λ x. out ++ x) (sym first) ∙ so_far

-- nothing is left
pub at-end : (whole : List ℕ → List ℕ) (out rest total : List ℕ) (empty : Bool) → whole [] ≡ [] → empty ≡ eqb (length rest) 0 → empty ≡ true → out ++ whole rest ≡ total → out ≡ total
at-end whole out rest total empty nothing e t so_far =
    let none : rest ≡ [] = nil_from_length rest (eqb-true _ _ (sym e ∙ t)) in
    sym (append-nil out) ∙ ap (λ x. out ++ x) (sym nothing) ∙ ap (λ r. out ++ whole r) (sym none) ∙ so_far
