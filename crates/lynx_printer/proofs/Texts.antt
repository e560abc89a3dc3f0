-- The text of joined lists of tokens.
use Rattle.std.proofs.Common.{◌≡◌, ℕ, ◌+◌, ◌<◌, ◌≤◌, List, [], ◌∷◌, ◌++◌, length, drop, get_or, Result, refl, sym, ap, subst, ◌∙◌, append_assoc, rules}
use Rattle.std.specs.Prelude.{codes, OnOk}
use Rattle.lynx_lexer.specs.declared.memory.NoMemory.{NoMemory}
use Rattle.lynx_lexer.specs.declared.keyword.Keyword.TheVariants as keywords
use Rattle.std.proofs.lemmas.List.{append-nil, drop_more, drop_all}
use Rattle.lynx_tree.specs.declared.expression.Expr as expr
use Rattle.std.specs.Global.{Vec, Box}
use Rattle.lynx_tree.proofs.Views.{expr_tree-Or, expr_tree-And, expr_tree-Sums, expr_tree-Terms}
use Rattle.lynx_lexer.specs.declared.sign.Sign.{Sign}
use Rattle.lynx_tree.specs.Trees.{expr_tree, expr_list, sum_list, term_list}
use Rattle.lynx_lexer.specs.declared.token.Kind.TheVariants as kinds
use Rattle.lynx_tree.specs.declared.expression.TermSign.{TermSign}
use Rattle.lynx_tree.specs.Grammar.{Mark, word, expr_marks, chain_marks, behind_marks, sum_marks, term_marks, term_sign}
use Rattle.lynx_tree.specs.Printing.{text_of, token_text, Prints}

pub text_of-append : (a b : List Mark) → text_of (a ++ b) ≡ text_of a ++ text_of b
text_of-append [] b = refl
text_of-append (t ∷ a) b = ap (λ (x : List ℕ). token_text t.kind ++ x) (text_of-append a b) ∙ sym (append_assoc (token_text t.kind) (text_of a) (text_of b))

pub ruleset texts = (text_of-append, append_assoc, append-nil)

-- ---- loops over members

regroup : (o b e t : List ℕ) → ((o ++ b) ++ e) ++ t ≡ o ++ (b ++ (e ++ t))
regroup o b e t = simp append_assoc

-- the members from a place on
at_place : {X : Type 0} (xs : List X) (i : ℕ) (x : X) → i < length xs → x ≡ get_or xs i x → drop i xs ≡ x ∷ drop (i + 1) xs
at_place xs i x lt is = drop_more xs i x lt ∙ (λ j. sym is j ∷ drop (i + 1) xs)

pub chain_step : (rest : List expr.Expr) (i : ℕ) (x : expr.Expr) (d : ℕ) (t : Mark) (between o o' o'' start : List ℕ) → i < length rest → x ≡ get_or rest i x → token_text t.kind ≡ between
    → o' ≡ o ++ between → o'' ≡ o' ++ text_of (expr_marks d (expr_tree x)) → o ++ text_of (behind_marks d t (expr_list (drop i rest))) ≡ start → o'' ++ text_of (behind_marks d t (expr_list (drop (i + 1) rest))) ≡ start
chain_step rest i x d t between o o' o'' start lt is spelled first second before =
    let here : List Mark = expr_marks d (expr_tree x) in
    let left : List Mark = behind_marks d t (expr_list (drop (i + 1) rest)) in
    let split : text_of (behind_marks d t (expr_list (drop i rest))) ≡ token_text t.kind ++ (text_of here ++ text_of left) =
    ap (λ (xs : List expr.Expr). text_of (behind_marks d t (expr_list xs))) (at_place rest i x lt is) ∙ ap (λ (y : List ℕ). token_text t.kind ++ y) (text_of-append here left) in
    let grown : o'' ≡ (o ++ token_text t.kind) ++ text_of here = second ∙ ap (λ (y : List ℕ). y ++ text_of here) (first ∙ ap (λ (y : List ℕ). o ++ y) (sym spelled)) in
    ap (λ (y : List ℕ). y ++ text_of left) grown ∙ regroup o (token_text t.kind) (text_of here) (text_of left) ∙ ap (λ (y : List ℕ). o ++ y) (sym split) ∙ before

pub sum_step : (ms : List (Sign × expr.Expr)) (i : ℕ) (m : Sign × expr.Expr) (d : ℕ) (o o' o'' start : List ℕ) → i < length ms → m ≡ get_or ms i m
    → o' ≡ o ++ token_text (kinds.Sign m.0) → o'' ≡ o' ++ text_of (expr_marks d (expr_tree m.1)) → o ++ text_of (sum_marks d (sum_list (drop i ms))) ≡ start → o'' ++ text_of (sum_marks d (sum_list (drop (i + 1) ms))) ≡ start
sum_step ms i m d o o' o'' start lt is first second before =
    let here : List Mark = expr_marks d (expr_tree m.1) in
    let left : List Mark = sum_marks d (sum_list (drop (i + 1) ms)) in
    let sign : List ℕ = token_text (kinds.Sign m.0) in
    let split : text_of (sum_marks d (sum_list (drop i ms))) ≡ sign ++ (text_of here ++ text_of left) =
    ap (λ (xs : List (Sign × expr.Expr)). text_of (sum_marks d (sum_list xs))) (at_place ms i m lt is) ∙ ap (λ (y : List ℕ). sign ++ y) (text_of-append here left) in
    let grown : o'' ≡ (o ++ sign) ++ text_of here = second ∙ ap (λ (y : List ℕ). y ++ text_of here) first in
    ap (λ (y : List ℕ). y ++ text_of left) grown ∙ regroup o sign (text_of here) (text_of left) ∙ ap (λ (y : List ℕ). o ++ y) (sym split) ∙ before

pub term_step : (ms : List (TermSign × expr.Expr)) (i : ℕ) (m : TermSign × expr.Expr) (d : ℕ) (o o' o'' start : List ℕ) → i < length ms → m ≡ get_or ms i m
    → o' ≡ o ++ (token_text (term_sign d m.0).kind ++ []) → o'' ≡ o' ++ text_of (expr_marks d (expr_tree m.1)) → o ++ text_of (term_marks d (term_list (drop i ms))) ≡ start → o'' ++ text_of (term_marks d (term_list (drop (i + 1) ms))) ≡ start
term_step ms i m d o o' o'' start lt is first second before =
    let here : List Mark = expr_marks d (expr_tree m.1) in
    let left : List Mark = term_marks d (term_list (drop (i + 1) ms)) in
    let sign : List ℕ = token_text (term_sign d m.0).kind in
    let split : text_of (term_marks d (term_list (drop i ms))) ≡ sign ++ (text_of here ++ text_of left) =
    ap (λ (xs : List (TermSign × expr.Expr)). text_of (term_marks d (term_list xs))) (at_place ms i m lt is) ∙ ap (λ (y : List ℕ). sign ++ y) (text_of-append here left) in
    let grown : o'' ≡ (o ++ sign) ++ text_of here = second ∙ ap (λ (y : List ℕ). y ++ text_of here) (first ∙ ap (λ (y : List ℕ). o ++ y) (append-nil sign)) in
    ap (λ (y : List ℕ). y ++ text_of left) grown ∙ regroup o sign (text_of here) (text_of left) ∙ ap (λ (y : List ℕ). o ++ y) (sym split) ∙ before

pub chain_end : (members rest : List expr.Expr) (first : expr.Expr) (i d : ℕ) (t : Mark) (old o last : List ℕ) → members ≡ first ∷ rest → length rest ≤ i
    → o ≡ old ++ text_of (expr_marks d (expr_tree first)) → last ++ text_of (behind_marks d t (expr_list (drop i rest))) ≡ o ++ text_of (behind_marks d t (expr_list rest)) → last ≡ old ++ text_of (chain_marks d t (expr_list members))
chain_end members rest first i d t old o last are le begun whole =
    let here : List Mark = expr_marks d (expr_tree first) in
    let others : List Mark = behind_marks d t (expr_list rest) in
    let done : last ++ text_of (behind_marks d t (expr_list (drop i rest))) ≡ last =
    ap (λ (xs : List expr.Expr). last ++ text_of (behind_marks d t (expr_list xs))) (drop_all i rest le) ∙ append-nil last in
    let all : text_of (chain_marks d t (expr_list members)) ≡ text_of here ++ text_of others =
    ap (λ (xs : List expr.Expr). text_of (chain_marks d t (expr_list xs))) are ∙ text_of-append here others in
    sym done ∙ whole ∙ ap (λ (y : List ℕ). y ++ text_of others) begun ∙ append_assoc old (text_of here) (text_of others) ∙ ap (λ (y : List ℕ). old ++ y) (sym all)

-- ---- what printing the parts of an expression says of it

pub text_of_or : (d : ℕ) → token_text (word d keywords.Or).kind ≡ codes "or" ++ 32 ∷ []
unfolding token_text
text_of_or d = refl

pub text_of_and : (d : ℕ) → token_text (word d keywords.And).kind ≡ codes "and" ++ 32 ∷ []
unfolding token_text
text_of_and d = refl

pub or_printed : (e : expr.Expr) (b : Box (Vec expr.Expr)) (v : Vec expr.Expr) (items : List expr.Expr) (d : ℕ) (r : Result (Unit {0}) NoMemory) (old new : List ℕ) → e ≡ expr.Or b → v ≡ b.value → items ≡ v.items
    → OnOk r (Prints old new (chain_marks d (word d keywords.Or) (expr_list items))) → OnOk r (Prints old new (expr_marks d (expr_tree e)))
or_printed e b v items d r old new is boxed are h =
    let all = are ∙ ap (λ (w : Vec expr.Expr). w.items) boxed in
    let same : expr_marks d (expr_tree e) ≡ chain_marks d (word d keywords.Or) (expr_list items) =
    ap (λ (x : expr.Expr). expr_marks d (expr_tree x)) is ∙ ap (expr_marks d) (expr_tree-Or b) ∙ ap (λ (xs : List expr.Expr). chain_marks d (word d keywords.Or) (expr_list xs)) (sym all) in
    subst (λ (ms : List Mark). OnOk r (Prints old new ms)) (sym same) h

pub and_printed : (e : expr.Expr) (b : Box (Vec expr.Expr)) (v : Vec expr.Expr) (items : List expr.Expr) (d : ℕ) (r : Result (Unit {0}) NoMemory) (old new : List ℕ) → e ≡ expr.And b → v ≡ b.value → items ≡ v.items
    → OnOk r (Prints old new (chain_marks d (word d keywords.And) (expr_list items))) → OnOk r (Prints old new (expr_marks d (expr_tree e)))
and_printed e b v items d r old new is boxed are h =
    let all = are ∙ ap (λ (w : Vec expr.Expr). w.items) boxed in
    let same : expr_marks d (expr_tree e) ≡ chain_marks d (word d keywords.And) (expr_list items) =
    ap (λ (x : expr.Expr). expr_marks d (expr_tree x)) is ∙ ap (expr_marks d) (expr_tree-And b) ∙ ap (λ (xs : List expr.Expr). chain_marks d (word d keywords.And) (expr_list xs)) (sym all) in
    subst (λ (ms : List Mark). OnOk r (Prints old new ms)) (sym same) h

two_parts : (a b : List Mark) (old mid new : List ℕ) → Prints old mid a → Prints mid new b → Prints old new (a ++ b)
two_parts a b old mid new h g = g ∙ ap (λ (y : List ℕ). y ++ text_of b) h ∙ append_assoc old (text_of a) (text_of b) ∙ ap (λ (y : List ℕ). old ++ y) (sym (text_of-append a b))

pub sums_printed : (e x : expr.Expr) (first : Box expr.Expr) (b : Box (Vec (Sign × expr.Expr))) (v : Vec (Sign × expr.Expr)) (items : List (Sign × expr.Expr)) (d : ℕ) (old mid new : List ℕ) → e ≡ expr.Sums first b → x ≡ first.value → v ≡ b.value → items ≡ v.items
    → Prints old mid (expr_marks d (expr_tree x)) → Prints mid new (sum_marks d (sum_list items)) → Prints old new (expr_marks d (expr_tree e))
sums_printed e x first b v items d old mid new is head boxed are h g =
    let all = are ∙ ap (λ (w : Vec (Sign × expr.Expr)). w.items) boxed in
    let same : expr_marks d (expr_tree e) ≡ expr_marks d (expr_tree x) ++ sum_marks d (sum_list items) =
    ap (λ (y : expr.Expr). expr_marks d (expr_tree y)) is ∙ ap (expr_marks d) (expr_tree-Sums first b) ∙ (λ i. expr_marks d (expr_tree (sym head i)) ++ sum_marks d (sum_list (sym all i))) in
    subst (λ (ms : List Mark). Prints old new ms) (sym same) (two_parts (expr_marks d (expr_tree x)) (sum_marks d (sum_list items)) old mid new h g)

pub terms_printed : (e x : expr.Expr) (first : Box expr.Expr) (b : Box (Vec (TermSign × expr.Expr))) (v : Vec (TermSign × expr.Expr)) (items : List (TermSign × expr.Expr)) (d : ℕ) (old mid new : List ℕ) → e ≡ expr.Terms first b → x ≡ first.value → v ≡ b.value → items ≡ v.items
    → Prints old mid (expr_marks d (expr_tree x)) → Prints mid new (term_marks d (term_list items)) → Prints old new (expr_marks d (expr_tree e))
terms_printed e x first b v items d old mid new is head boxed are h g =
    let all = are ∙ ap (λ (w : Vec (TermSign × expr.Expr)). w.items) boxed in
    let same : expr_marks d (expr_tree e) ≡ expr_marks d (expr_tree x) ++ term_marks d (term_list items) =
    ap (λ (y : expr.Expr). expr_marks d (expr_tree y)) is ∙ ap (expr_marks d) (expr_tree-Terms first b) ∙ (λ i. expr_marks d (expr_tree (sym head i)) ++ term_marks d (term_list (sym all i))) in
    subst (λ (ms : List Mark). Prints old new ms) (sym same) (two_parts (expr_marks d (expr_tree x)) (term_marks d (term_list items)) old mid new h g)
