-- Words that are read one after the other.
use Rattle.std.proofs.Common.{◌≡◌, ℕ, ◌+◌, List, [], ◌∷◌, ◌++◌, map, option_map, drop, Option, Some, None, inl, inr, is_none, true≢false, sym, ◌∙◌, ap, append_assoc}
use Rattle.std.proofs.lemmas.List.{append-nil, drop_all, drop_more, map-append}
use Rattle.std.proofs.lemmas.Option.{slice_get_cases, slice_get_within, get_or_from_slice_get}
use Rattle.std.specs.Prelude.{IfSome}
use Rattle.std.specs.List.{slice_get}

-- no element of that number, so nothing from there on
drop_past : {X : Type 0} (xs : List X) (i : ℕ) → None ≡ slice_get xs i → drop i xs ≡ []
drop_past xs i none = elim ((slice_get_cases xs i).1) [ inl there ↦ absurd (true≢false (ap is_none (none ∙ there.2))) | inr past ↦ drop_all i xs past.0 ]

-- an element, and what stands behind it
drop_one : {X : Type 0} (xs : List X) (i : ℕ) (x : X) → Some x ≡ slice_get xs i → drop i xs ≡ x ∷ drop (i + 1) xs
drop_one xs i x here = drop_more xs i x (slice_get_within xs i x (sym here)) ∙ ap (λ y. y ∷ drop (i + 1) xs) (get_or_from_slice_get xs i x x (sym here))

-- the words so far, and those from a number on
abbrev pub Read : {X W : Type 0} → (W → X) → Option (List X) → List W → ℕ → Type 0
Read text told words number = IfSome told (λ all. map text words ++ drop number all ≡ drop 1 all)

-- there is no word of that number: the words so far are all
pub all_read : {X W : Type 0} (text : W → X) (told : Option (List X)) (words : List W) (number : ℕ) {found : Option W} → found ≡ None → Read text told words number
    → IfSome told (λ all. option_map text found ≡ slice_get all number) → IfSome told (λ all. map text words ≡ drop 1 all)
all_read text None words number is so_far answer = tt
all_read text (Some all) words number is so_far answer =
    let past = drop_past all number (ap (option_map text) (sym is) ∙ answer) in
    sym (append-nil (map text words)) ∙ (ap (λ l. map text words ++ l) (sym past) ∙ so_far)

-- one word more
pub one_read : {X W : Type 0} (text : W → X) (told : Option (List X)) (words : List W) (word : W) (number : ℕ) {found : Option W} → found ≡ Some word → Read text told words number
    → IfSome told (λ all. option_map text found ≡ slice_get all number) → Read text told (words ++ word ∷ []) (number + 1)
one_read text None words word number is so_far answer = tt
one_read text (Some all) words word number is so_far answer =
    let here = drop_one all number (text word) (ap (option_map text) (sym is) ∙ answer) in
    ap (λ l. l ++ drop (number + 1) all) (map-append text words (word ∷ []))
    ∙ (append_assoc (map text words) (text word ∷ []) (drop (number + 1) all) ∙ (ap (λ l. map text words ++ l) (sym here) ∙ so_far))
