-- No line of a text has a line feed.
use Rattle.std.proofs.Common.{◌≡◌, ℕ, Bool, true, false, not, ◌&&◌, eqb, List, [], ◌∷◌, ◌++◌, refl, sym, ap, ◌∙◌, subst, All}
use Rattle.std.specs.List.{onto_first, slice_split}
use Rattle.std.proofs.lemmas.List.Elements.{All-nil, All-cons, All-head, All-tail}
use Rattle.std.proofs.lemmas.List.Splits.{slice_split-cons_yes, slice_split-cons_no}
use Rattle.charlotte_text.specs.Reading.{parts}
use Rattle.history_checker.specs.Reading.{is_one_line}

abbrev IsOneLine : List ℕ → Type 0
IsOneLine line = is_one_line line ≡ true

onto : (x : ℕ) (b : Bool) → eqb x 10 ≡ b → (xs : List ℕ) (ps : List (List ℕ)) → slice_split (λ c. eqb c 10) xs ≡ ps → All IsOneLine ps
    → All IsOneLine (slice_split (λ c. eqb c 10) (x ∷ xs))
onto x true is xs ps e each =
    subst (All IsOneLine) (sym (slice_split-cons_yes (λ c. eqb c 10) x xs is ∙ ap (λ qs. [] ∷ qs) e)) (All-cons IsOneLine [] ps refl each)
onto x false is xs [] e each =
    subst (All IsOneLine) (sym (slice_split-cons_no (λ c. eqb c 10) x xs is ∙ ap (onto_first x) e)) (All-cons IsOneLine (x ∷ []) [] (ap (λ b. not b && true) is) each)
onto x false is xs (p ∷ ps) e each =
    subst (All IsOneLine) (sym (slice_split-cons_no (λ c. eqb c 10) x xs is ∙ ap (onto_first x) e))
    (All-cons IsOneLine (x ∷ p) ps (ap (λ b. not b && is_one_line p) is ∙ All-head IsOneLine p ps each) (All-tail IsOneLine p ps each))

-- no line of a text has one
each_one_line : (bytes : List ℕ) → All IsOneLine (parts 10 bytes)
each_one_line [] = All-cons IsOneLine [] [] refl (All-nil IsOneLine)
each_one_line (x ∷ xs) = onto x (eqb x 10) refl xs (parts 10 xs) refl (each_one_line xs)

among : (P : List ℕ → Type 0) (lines rest : List (List ℕ)) (text : List ℕ) → All P ((lines ++ text ∷ []) ++ rest) → P text
among P [] rest text each = All-head P text rest each
among P (line ∷ lines) rest text each = among P lines rest text (All-tail P line ((lines ++ text ∷ []) ++ rest) each)

pub one_line : (bytes : List ℕ) (lines rest : List (List ℕ)) (text : List ℕ) → parts 10 bytes ≡ (lines ++ text ∷ []) ++ rest → is_one_line text ≡ true
one_line bytes lines rest text e = among IsOneLine lines rest text (subst (All IsOneLine) e (each_one_line bytes))
