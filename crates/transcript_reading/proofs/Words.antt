-- Words and the lines that they make, one blank between two.
use Rattle.std.proofs.Common.{◌≡◌, ℕ, ◌<◌, true, false, eqb, ltb, List, [], ◌∷◌, ◌++◌, map, refl, sym, ap, subst, ◌∙◌, append-nil, arith}
use Rattle.std.specs.List.{All, AllByRecursion, list_all, flat_map, join_with_byte, slice_split}
use Rattle.std.proofs.lemmas.Bool.{and_parts, eq-eqb, ltb-true, ne_eqb}
use Rattle.std.proofs.lemmas.List.Elements.{All-append, All-cons, All-nil, All-weaker}
use Rattle.std.proofs.lemmas.List.Splits.{slice_split_at, slice_split_none}
use Rattle.charlotte_text.specs.Reading.{words}

-- a byte that is no blank, no line feed and nothing else below them
abbrev pub IsMark : ℕ → Type 0
IsMark b = 32 < b

abbrev pub IsWord : List ℕ → Type 0
IsWord w = All IsMark w

abbrev pub AreWords : List (List ℕ) → Type 0
AreWords ws = AllByRecursion IsWord ws

-- another byte stands nowhere in it
abbrev pub IsFree : ℕ → List ℕ → Type 0
IsFree c w = All (λ b. eqb b c ≡ false) w

pub word_codes : (w : List ℕ) → list_all (ltb 32) w ≡ true → IsWord w
word_codes [] e = All-nil IsMark
word_codes (b ∷ bs) e =
    let k = and_parts (ltb 32 b) (list_all (ltb 32) bs) e in
    All-cons IsMark b bs (ltb-true 32 b k.0) (word_codes bs k.1)

pub word_free : (c : ℕ) (w : List ℕ) → c < 33 → IsWord w → IsFree c w
word_free c w lt is = All-weaker IsMark (λ b. eqb b c ≡ false) (λ b h. ne_eqb b c (λ e. absurd (omega arith))) w is

-- words that were joined are split again
pub split_joined : (c : ℕ) (w : List ℕ) (ws : List (List ℕ)) → IsFree c w → AllByRecursion (IsFree c) ws → slice_split (λ b. eqb b c) (join_with_byte c (w ∷ ws)) ≡ w ∷ ws
split_joined c w [] free rest = slice_split_none (λ b. eqb b c) w free
split_joined c w (v ∷ vs) free rest =
    slice_split_at (λ b. eqb b c) w c (join_with_byte c (v ∷ vs)) free (same c) ∙ ap (λ (xs : List (List ℕ)). w ∷ xs) (split_joined c v vs rest.0 rest.1)
  where
    same : (n : ℕ) → eqb n n ≡ true
    same n = eq-eqb n n refl

-- a word and others, each behind a byte
pub joined_map : {X : Type 0} (c : ℕ) (f : X → List ℕ) (w : List ℕ) (xs : List X) → join_with_byte c (w ∷ map f xs) ≡ w ++ flat_map (λ x. c ∷ f x) xs
joined_map c f w [] = sym (append-nil w)
joined_map c f w (x ∷ xs) = ap (λ (t : List ℕ). w ++ c ∷ t) (joined_map c f (f x) xs)

-- a line is spelled by these words
pub record IsSpelled (text : List ℕ) (ws : List (List ℕ)) : Type 0 where
  pub joined : join_with_byte 32 ws ≡ text
  pub each : AreWords ws

each_free : (c : ℕ) (ws : List (List ℕ)) → c < 33 → AreWords ws → AllByRecursion (IsFree c) ws
each_free c [] lt is = tt
each_free c (w ∷ ws) lt is = (word_free c w lt is.0, each_free c ws lt is.1)

-- its words are read again
pub spelled_words : (text w : List ℕ) (ws : List (List ℕ)) → IsSpelled text (w ∷ ws) → words text ≡ w ∷ ws
spelled_words text w ws s = ap words (sym s.joined) ∙ split_joined 32 w ws (word_free 32 w (omega arith) s.each.0) (each_free 32 ws (omega arith) s.each.1)

joined_free : (ws : List (List ℕ)) → AreWords ws → IsFree 10 (join_with_byte 32 ws)
joined_free [] is = All-nil (λ b. eqb b 10 ≡ false)
joined_free (w ∷ []) is = word_free 10 w (omega arith) is.0
joined_free (w ∷ v ∷ vs) is =
    All-append (λ b. eqb b 10 ≡ false) w (32 ∷ join_with_byte 32 (v ∷ vs)) (word_free 10 w (omega arith) is.0)
    (All-cons (λ b. eqb b 10 ≡ false) 32 (join_with_byte 32 (v ∷ vs)) refl (joined_free (v ∷ vs) is.1))

-- no line feed stands in it
pub spelled_free : (text : List ℕ) (ws : List (List ℕ)) → IsSpelled text ws → IsFree 10 text
spelled_free text ws s = subst (IsFree 10) s.joined (joined_free ws s.each)

-- ---- how lines are put together

pub same_text : (a b : List ℕ) (ws : List (List ℕ)) → a ≡ b → IsSpelled a ws → IsSpelled b ws
same_text a b ws e s = record { joined = s.joined ∙ e; each = s.each }

pub one_word : (w : List ℕ) → IsWord w → IsSpelled w (w ∷ [])
one_word w is = record { joined = refl; each = (is, tt) }

pub word_before : (w text v : List ℕ) (ws : List (List ℕ)) → IsWord w → IsSpelled text (v ∷ ws) → IsSpelled (w ++ 32 ∷ text) (w ∷ v ∷ ws)
word_before w text v ws is s = record { joined = ap (λ (t : List ℕ). w ++ 32 ∷ t) s.joined; each = (is, s.each) }

pub words_behind : {X : Type 0} (f : X → List ℕ) (w : List ℕ) (xs : List X) → IsWord w → AreWords (map f xs) → IsSpelled (w ++ flat_map (λ x. 32 ∷ f x) xs) (w ∷ map f xs)
words_behind f w xs is all = record { joined = joined_map 32 f w xs; each = (is, all) }
