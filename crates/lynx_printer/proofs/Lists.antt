-- Loops that print the items of a list.
use Rattle.std.proofs.Common.{◌≡◌, ℕ, suc, ◌+◌, ◌<◌, ◌≤◌, List, [], ◌∷◌, ◌++◌, length, drop, get_or, map, refl, sym, ap, subst, ◌∙◌, append_assoc}
use Rattle.std.specs.List.{flat_map}
use Rattle.std.proofs.lemmas.List.{append-nil, drop_more, drop_all}
use Rattle.lynx_tree.specs.Grammar.{Mark, commas, mark, bracketed}
use Rattle.std.specs.Prelude.{codes}
use Rattle.lynx_lexer.specs.declared.sign.Sign.TheVariants as signs
use Rattle.lynx_tree.specs.Printing.{text_of, token_text, Prints}
use Rattle.lynx_tree.proofs.Views.{flat_map-map}
use Rattle.lynx_printer.proofs.Texts.{text_of-append}

-- an item is printed, and those behind it are left
pub each_step : {X : Type 0} (f : X → List Mark) (xs : List X) (i : ℕ) (x : X) (o o' start : List ℕ) → i < length xs → x ≡ get_or xs i x → o' ≡ o ++ text_of (f x)
    → o ++ text_of (flat_map f (drop i xs)) ≡ start → o' ++ text_of (flat_map f (drop (i + 1) xs)) ≡ start
each_step {X = X} f xs i x o o' start lt is grown before =
    let left : List Mark = flat_map f (drop (i + 1) xs) in
    let here : drop i xs ≡ x ∷ drop (i + 1) xs = drop_more xs i x lt ∙ (λ j. sym is j ∷ drop (i + 1) xs) in
    let split : text_of (flat_map f (drop i xs)) ≡ text_of (f x) ++ text_of left = ap (λ (ys : List X). text_of (flat_map f ys)) here ∙ text_of-append (f x) left in
    ap (λ (y : List ℕ). y ++ text_of left) grown ∙ append_assoc o (text_of (f x)) (text_of left) ∙ ap (λ (y : List ℕ). o ++ y) (sym split) ∙ before

pub each_end : {X : Type 0} (f : X → List Mark) (xs : List X) (i : ℕ) (old o : List ℕ) → length xs ≤ i → o ++ text_of (flat_map f (drop i xs)) ≡ old ++ text_of (flat_map f xs) → o ≡ old ++ text_of (flat_map f xs)
each_end {X = X} f xs i old o le whole = sym (append-nil o) ∙ ap (λ (ys : List X). o ++ text_of (flat_map f ys)) (sym (drop_all i xs le)) ∙ whole

-- an item behind a comma
abbrev pub behind_comma : {X : Type 0} → ℕ → (X → List Mark) → X → List Mark
behind_comma d f x = mark d signs.Comma ∷ f x

pub comma_step : {X : Type 0} (d : ℕ) (f : X → List Mark) (xs : List X) (i : ℕ) (x : X) (o o' o'' start : List ℕ) → i < length xs → x ≡ get_or xs i x → o' ≡ o ++ token_text (mark d signs.Comma).kind → o'' ≡ o' ++ text_of (f x)
    → o ++ text_of (flat_map (behind_comma d f) (drop i xs)) ≡ start → o'' ++ text_of (flat_map (behind_comma d f) (drop (i + 1) xs)) ≡ start
comma_step d f xs i x o o' o'' start lt is first second before =
    each_step (behind_comma d f) xs i x o o'' start lt is (second ∙ ap (λ (y : List ℕ). y ++ text_of (f x)) first ∙ append_assoc o (token_text (mark d signs.Comma).kind) (text_of (f x))) before

pub commas_end : {X : Type 0} (d : ℕ) (f : X → List Mark) (xs rest : List X) (first : X) (i : ℕ) (old o last : List ℕ) → xs ≡ first ∷ rest → length rest ≤ i → o ≡ old ++ text_of (f first)
    → last ++ text_of (flat_map (behind_comma d f) (drop i rest)) ≡ o ++ text_of (flat_map (behind_comma d f) rest) → last ≡ old ++ text_of (commas d (map f xs))
commas_end {X = X} d f xs rest first i old o last are le begun whole =
    let others : List Mark = flat_map (behind_comma d f) rest in
    let all : text_of (commas d (map f xs)) ≡ text_of (f first) ++ text_of others =
    ap (λ (ys : List X). text_of (commas d (map f ys))) are ∙ ap (λ (ms : List Mark). text_of (f first ++ ms)) (flat_map-map (λ next. mark d signs.Comma ∷ next) f rest) ∙ text_of-append (f first) others in
    each_end (behind_comma d f) rest i o last le whole ∙ ap (λ (y : List ℕ). y ++ text_of others) begun ∙ append_assoc old (text_of (f first)) (text_of others) ∙ ap (λ (y : List ℕ). old ++ y) (sym all)

-- ---- single tokens and brackets

pub one_more : (t : Mark) (o o' : List ℕ) → o' ≡ o ++ token_text t.kind → o' ≡ o ++ text_of (t ∷ [])
one_more t o o' h = h ∙ ap (λ (y : List ℕ). o ++ y) (sym (append-nil (token_text t.kind)))

pub bracketed_printed : (d : ℕ) (inside : List Mark) (o a b new : List ℕ) → a ≡ o ++ token_text (mark (suc d) signs.Open).kind → Prints a b inside → new ≡ b ++ token_text (mark (suc d) signs.Close).kind → Prints o new (bracketed d inside)
bracketed_printed d inside o a b new first second third =
    let open_text : List ℕ = token_text (mark (suc d) signs.Open).kind in
    let close_text : List ℕ = token_text (mark (suc d) signs.Close).kind in
    let whole : text_of (bracketed d inside) ≡ open_text ++ (text_of inside ++ close_text) =
    ap (λ (y : List ℕ). open_text ++ y) (text_of-append inside (mark (suc d) signs.Close ∷ []) ∙ ap (λ (y : List ℕ). text_of inside ++ y) (append-nil close_text)) in
    third ∙ ap (λ (y : List ℕ). y ++ close_text) (second ∙ ap (λ (y : List ℕ). y ++ text_of inside) first) ∙ regrouped o open_text (text_of inside) close_text ∙ ap (λ (y : List ℕ). o ++ y) (sym whole)
  where
    regrouped : (o b e t : List ℕ) → ((o ++ b) ++ e) ++ t ≡ o ++ (b ++ (e ++ t))
    regrouped o b e t = simp append_assoc

pub text_of_comma : (d : ℕ) → token_text (mark d signs.Comma).kind ≡ codes "," ++ 32 ∷ []
unfolding token_text
text_of_comma d = refl

-- what the items of a slice print, those of its vector print
pub along : {X : Type 0} (f : List X → List Mark) (xs ys : List X) (old new : List ℕ) → xs ≡ ys → Prints old new (f xs) → Prints old new (f ys)
along {X = X} f xs ys old new e h = subst (λ (zs : List X). Prints old new (f zs)) e h

-- and the trees of its items
pub along_trees : {X Y : Type 0} (f : Y → List Mark) (tree : X → Y) (xs ys : List X) (old new : List ℕ) → xs ≡ ys → Prints old new (flat_map (λ x. f (tree x)) xs) → Prints old new (flat_map f (map tree ys))
along_trees {X = X} f tree xs ys old new e h = along (λ (zs : List X). flat_map f (map tree zs)) xs ys old new e (h ∙ ap (λ (ms : List Mark). old ++ text_of ms) (sym (flat_map-map f tree xs)))
