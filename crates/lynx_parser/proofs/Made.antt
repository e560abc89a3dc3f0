-- The trees of values that are made of their parts.
use Rattle.std.proofs.Common.{◌≡◌, ℕ, ◌<◌, List, [], ◌∷◌, length, map, Bool, false, Ok, refl, ap, ◌∙◌, arith, rules}
use Rattle.std.specs.Global.{Vec, Box}
use Rattle.lynx_lexer.specs.declared.sign.Sign.{Sign}
use Rattle.lynx_lexer.specs.declared.token.Kind.{Kind}
use Rattle.lynx_descent.specs.Reading.{Parser, many}
use Rattle.lynx_descent.proofs.Turns.{turn_stops}
use Rattle.lynx_tree.specs.declared.expression.Expr as expr
use Rattle.lynx_tree.specs.declared.expression.Expr.TheViews.{the_lemmas}
use Rattle.lynx_tree.specs.declared.expression.TermSign.{TermSign}
use Rattle.lynx_tree.specs.Trees as trees
use Rattle.lynx_tree.specs.Trees.{ExprTree, expr_tree, expr_list, sum_list, term_list}
use Rattle.lynx_descent.specs.ReadingExpressions.{exprs_of, sums_of, terms_of, sum_of, term_of}
use Rattle.lynx_tree.proofs.Views.{expr_tree-Or, expr_tree-And, expr_tree-Sums, expr_tree-Terms}

pub exprs_listed : (es : List expr.Expr) → expr_list es ≡ exprs_of (map expr_tree es)
exprs_listed [] = refl
exprs_listed (e ∷ es) = ap (trees.more_exprs (expr_tree e)) (exprs_listed es)

sums_listed : (ms : List (Sign × expr.Expr)) → sum_list ms ≡ sums_of (map (λ m. (m.0, expr_tree m.1)) ms)
sums_listed [] = refl
sums_listed (m ∷ ms) = ap (trees.more_sums m.0 (expr_tree m.1)) (sums_listed ms)

terms_listed : (ms : List (TermSign × expr.Expr)) → term_list ms ≡ terms_of (map (λ m. (m.0, expr_tree m.1)) ms)
terms_listed [] = refl
terms_listed (m ∷ ms) = ap (trees.more_terms m.0 (expr_tree m.1)) (terms_listed ms)

pub made_or : (v : Box (Vec expr.Expr)) → expr_tree (expr.Or v) ≡ trees.Or (exprs_of (map expr_tree v.value.items))
made_or v = expr_tree-Or v ∙ ap trees.Or (exprs_listed v.value.items)

pub made_and : (v : Box (Vec expr.Expr)) → expr_tree (expr.And v) ≡ trees.And (exprs_of (map expr_tree v.value.items))
made_and v = expr_tree-And v ∙ ap trees.And (exprs_listed v.value.items)

pub made_relation : (sign : Sign) (first second : Box expr.Expr) → expr_tree (expr.Relation sign first second) ≡ trees.Relation (expr_tree first.value) sign (expr_tree second.value)
made_relation sign first second = search (rules, the_lemmas)

pub made_minus : (inner : Box expr.Expr) → expr_tree (expr.Minus inner) ≡ trees.Minus (expr_tree inner.value)
made_minus inner = search (rules, the_lemmas)

pub made_not : (inner : Box expr.Expr) → expr_tree (expr.Not inner) ≡ trees.Not (expr_tree inner.value)
made_not inner = search (rules, the_lemmas)

pub made_bracket : (inner : Box expr.Expr) → expr_tree (expr.Bracket inner) ≡ trees.Bracket (expr_tree inner.value)
made_bracket inner = search (rules, the_lemmas)

pub made_name : (n : List ℕ) → expr_tree (expr.Name n) ≡ trees.Name n
made_name n = refl

pub made_member : (n : Box (List ℕ)) (index : Box expr.Expr) → expr_tree (expr.Member n index) ≡ trees.Member n.value (expr_tree index.value)
made_member n index = search (rules, the_lemmas)

-- a chain that has members behind the first
sum_more : (x : ExprTree) (ms : List (Sign × expr.Expr)) → 0 < length ms → trees.Sum x (sum_list ms) ≡ sum_of x (map (λ m. (m.0, expr_tree m.1)) ms)
sum_more x [] some = absurd (omega arith)
sum_more x (m ∷ ms) some = ap (trees.Sum x) (sums_listed (m ∷ ms))

term_more : (x : ExprTree) (ms : List (TermSign × expr.Expr)) → 0 < length ms → trees.Term x (term_list ms) ≡ term_of x (map (λ m. (m.0, expr_tree m.1)) ms)
term_more x [] some = absurd (omega arith)
term_more x (m ∷ ms) some = ap (trees.Term x) (terms_listed (m ∷ ms))

pub sum_made : (first : Box expr.Expr) (v : Box (Vec (Sign × expr.Expr))) (ms : List (Sign × expr.Expr)) → v.value.items ≡ ms → 0 < length ms
    → expr_tree (expr.Sums first v) ≡ sum_of (expr_tree first.value) (map (λ m. (m.0, expr_tree m.1)) ms)
sum_made first v ms are some = expr_tree-Sums first v ∙ ap (λ xs. trees.Sum (expr_tree first.value) (sum_list xs)) are ∙ sum_more (expr_tree first.value) ms some

pub term_made : (first : Box expr.Expr) (v : Box (Vec (TermSign × expr.Expr))) (ms : List (TermSign × expr.Expr)) → v.value.items ≡ ms → 0 < length ms
    → expr_tree (expr.Terms first v) ≡ term_of (expr_tree first.value) (map (λ m. (m.0, expr_tree m.1)) ms)
term_made first v ms are some = expr_tree-Terms first v ∙ ap (λ xs. trees.Term (expr_tree first.value) (term_list xs)) are ∙ term_more (expr_tree first.value) ms some

-- no item is read where none begins
pub nothing_more : {A : Type 0} (goes : List Kind → Bool) (item : Parser A) (ts : List Kind) → goes ts ≡ false → many goes item [] ts ≡ Ok ([], ts)
unfolding many
nothing_more goes item ts off = turn_stops goes item (length ts) [] ts off

pub ruleset made = (made_or, made_and, made_relation, made_minus, made_not, made_bracket, made_name, made_member)
