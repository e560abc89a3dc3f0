-- Parts of texts.
use Rattle.std.proofs.Common.{◌≡◌, ℕ, suc, ◌+◌, ◌-◌, ◌<◌, ◌≤◌, Bool, true, false, cond, not, eqb, ltb, List, [], ◌∷◌, length, take, drop, Some, None, Err, refl, ap, ◌∙◌, arith}
use Rattle.std.specs.List.{slice_split, onto_first, position, position_or_len, before_first, after_first}
use Rattle.std.proofs.lemmas.List.{take_all, length-drop}
use Rattle.std.proofs.lemmas.List.Splits.{slice_split_first}
use Rattle.std.proofs.lemmas.Bool.{ltb-true, ltb-false}
use Rattle.charlotte_text.specs.declared.fault.Fault.TheVariants.{Form}
use Rattle.charlotte_text.specs.Reading.{parts, rest_parts, ended}

-- a text has a first part
pub first_part : {X : Type 0} (p : X → Bool) (xs : List X) → (h : List X) × (t : List (List X)) × (slice_split p xs ≡ h ∷ t)
first_part p [] = ([], [], refl)
first_part p (x ∷ xs) =
    let rest = first_part p xs in
    elim (p x) as (λ b. (h : List _) × (t : List (List _)) × (cond b ([] ∷ slice_split p xs) (onto_first x (slice_split p xs)) ≡ h ∷ t)) [
      | true ↦ ([], slice_split p xs, refl)
      | false ↦ (x ∷ rest.0, rest.1, ap (onto_first x) rest.2)
    ]

ended_parts : (ps : List (List ℕ)) (h : List ℕ) (t : List (List ℕ)) → ps ≡ h ∷ t → ended ps ≡ Err Form
ended_parts [] h t e = absurd cc
ended_parts (p ∷ ps) h t e = refl

pub ended_rest : (separator : ℕ) (text : List ℕ) → ended (rest_parts separator (Some text)) ≡ Err Form
ended_rest separator text =
    let first = first_part (λ b. eqb b separator) text in
    ended_parts (parts separator text) first.0 first.1 first.2

-- no part but the text, where no element cuts it
uncut : {X : Type 0} (p : X → Bool) (xs : List X) → length xs ≤ position_or_len p xs → slice_split p xs ≡ xs ∷ []
uncut p [] h = refl
uncut p (x ∷ xs) h =
    elim (p x) as (λ b. suc (length xs) ≤ cond (not b) (1 + position_or_len p xs) 0 → cond b ([] ∷ slice_split p xs) (onto_first x (slice_split p xs)) ≡ (x ∷ xs) ∷ []) [
      | true ↦ λ le. absurd (omega arith)
      | false ↦ λ le. ap (onto_first x) (uncut p xs (omega arith))
    ] h

at_some : {X : Type 0} (p : X → Bool) (xs : List X) (b : Bool) (i : ℕ) → ltb (position_or_len p xs) (length xs) ≡ b → cond b (Some (position_or_len p xs)) None ≡ Some i → (position_or_len p xs < length xs) × (position_or_len p xs ≡ i)
at_some p xs true i t e = (ltb-true _ _ t, cc)
at_some p xs false i t e = absurd cc

at_none : {X : Type 0} (p : X → Bool) (xs : List X) (b : Bool) (n : ℕ) → ltb n (length xs) ≡ b → cond b (Some n) None ≡ None → length xs ≤ n
at_none p xs true n t e = absurd cc
at_none p xs false n t e = ltb-false _ _ t

pub cut_none : {X : Type 0} (p : X → Bool) (xs : List X) → position p xs ≡ None → slice_split p xs ≡ xs ∷ []
cut_none p xs e = uncut p xs (at_none p xs (ltb (position_or_len p xs) (length xs)) (position_or_len p xs) refl e)

pub cut_some : {X : Type 0} (p : X → Bool) (xs : List X) (i : ℕ) (d : X) → position p xs ≡ Some i → slice_split p xs ≡ take i xs ∷ slice_split p (take (length xs - (i + 1)) (drop (i + 1) xs))
cut_some p xs i d e =
    let found = at_some p xs (ltb (position_or_len p xs) (length xs)) i refl e in
    let rest : take (length xs - (i + 1)) (drop (i + 1) xs) ≡ drop (i + 1) xs = take_all _ _ (omega (arith, length-drop (i + 1) xs)) in
    let cuts : slice_split p xs ≡ before_first p xs ∷ slice_split p (after_first p xs) = slice_split_first p xs d found.0 in
    cuts ∙ rw (rest, found.1) refl
