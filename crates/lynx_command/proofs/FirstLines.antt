-- The first line of a text, and all of them.
use Rattle.std.proofs.Common.{◌≡◌, ℕ, suc, ◌+◌, ◌<◌, ◌≤◌, Bool, true, false, cond, not, eqb, ltb, List, [], ◌∷◌, length, take, drop, Some, None, refl, sym, ap, ◌∙◌, arith}
use Rattle.std.specs.List.{concat, onto_first, position, position_or_len}
use Rattle.std.proofs.lemmas.Bool.{ltb-true, ltb-false}
use Rattle.std.proofs.lemmas.List.{take_all, drop_all}
use Rattle.lynx_command.specs.Text.{lines_of}

-- how many bytes stand before the first line feed
abbrev before_feed : List ℕ → ℕ
before_feed text = position_or_len (λ b. eqb b 10) text

one_more : (k : ℕ) → suc (k + 1) ≡ 1 + k + 1
one_more k = omega arith

-- it goes up to its line feed
up_to_feed : (text : List ℕ) → before_feed text < length text → lines_of text ≡ take (before_feed text + 1) text ∷ lines_of (drop (before_feed text + 1) text)
up_to_feed [] h = absurd (omega arith)
up_to_feed (b ∷ bs) h =
    elim (eqb b 10) as (λ x. cond (not x) (1 + before_feed bs) 0 < suc (length bs)
    → cond x ((b ∷ []) ∷ lines_of bs) (onto_first b (lines_of bs)) ≡ take (cond (not x) (1 + before_feed bs) 0 + 1) (b ∷ bs) ∷ lines_of (drop (cond (not x) (1 + before_feed bs) 0 + 1) (b ∷ bs))) [
      | true ↦ λ lt. refl
      | false ↦ λ lt. ap (onto_first b) (up_to_feed bs (omega arith)) ∙ ap (λ (n : ℕ). take n (b ∷ bs) ∷ lines_of (drop n (b ∷ bs))) (one_more (before_feed bs))
    ] h

-- a text without a line feed is one line, unless it is empty
abbrev one_line : List ℕ → List (List ℕ)
one_line [] = []
one_line (b ∷ bs) = (b ∷ bs) ∷ []

onto_one_line : (b : ℕ) (bs : List ℕ) → onto_first b (one_line bs) ≡ (b ∷ bs) ∷ []
onto_one_line b [] = refl
onto_one_line b (c ∷ cs) = refl

without_feed : (text : List ℕ) → length text ≤ before_feed text → lines_of text ≡ one_line text
without_feed [] h = refl
without_feed (b ∷ bs) h =
    elim (eqb b 10) as (λ x. suc (length bs) ≤ cond (not x) (1 + before_feed bs) 0 → cond x ((b ∷ []) ∷ lines_of bs) (onto_first b (lines_of bs)) ≡ (b ∷ bs) ∷ []) [
      | true ↦ λ le. absurd (omega arith)
      | false ↦ λ le. ap (onto_first b) (without_feed bs (omega arith)) ∙ onto_one_line b bs
    ] h

taken_whole : (text : List ℕ) → 0 < length text → one_line text ≡ take (length text) text ∷ lines_of (drop (length text) text)
taken_whole [] h = absurd (omega arith)
taken_whole (b ∷ bs) h = λ i. sym (take_all (length (b ∷ bs)) (b ∷ bs) (omega arith)) i ∷ lines_of (sym (drop_all (length (b ∷ bs)) (b ∷ bs) (omega arith)) i)

at_some : (text : List ℕ) (b : Bool) (i : ℕ) → ltb (before_feed text) (length text) ≡ b → cond b (Some (before_feed text)) None ≡ Some i → (before_feed text < length text) × (before_feed text ≡ i)
at_some text true i t e = (ltb-true _ _ t, cc)
at_some text false i t e = absurd cc

at_none : (text : List ℕ) (b : Bool) (n : ℕ) → ltb n (length text) ≡ b → cond b (Some n) None ≡ None → length text ≤ n
at_none text true n t e = absurd cc
at_none text false n t e = ltb-false _ _ t

pub line_up_to : (text : List ℕ) (i : ℕ) → position (λ b. eqb b 10) text ≡ Some i → lines_of text ≡ take (i + 1) text ∷ lines_of (drop (i + 1) text)
line_up_to text i e =
    let found = at_some text (ltb (before_feed text) (length text)) i refl e in
    up_to_feed text found.0 ∙ ap (λ (n : ℕ). take (n + 1) text ∷ lines_of (drop (n + 1) text)) found.1

pub last_line : (text : List ℕ) → 0 < length text → position (λ b. eqb b 10) text ≡ None → lines_of text ≡ take (length text) text ∷ lines_of (drop (length text) text)
last_line text some e = without_feed text (at_none text (ltb (before_feed text) (length text)) (before_feed text) refl e) ∙ taken_whole text some

-- ---- all of them

first_joined : (b : ℕ) (lines : List (List ℕ)) → concat (onto_first b lines) ≡ b ∷ concat lines
first_joined b [] = refl
first_joined b (l ∷ ls) = refl

pub lines-joined : (text : List ℕ) → concat (lines_of text) ≡ text
lines-joined [] = refl
lines-joined (b ∷ bs) =
    elim (eqb b 10) as (λ x. concat (cond x ((b ∷ []) ∷ lines_of bs) (onto_first b (lines_of bs))) ≡ b ∷ bs) [
      | true ↦ ap (λ (rest : List ℕ). b ∷ rest) (lines-joined bs)
      | false ↦ first_joined b (lines_of bs) ∙ ap (λ (rest : List ℕ). b ∷ rest) (lines-joined bs)
    ]
