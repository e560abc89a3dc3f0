-- Trees of the values in vectors and boxes: what `expr_tree` and `stmt_tree` give, said of lists.
use Rattle.std.proofs.Common.{◌≡◌, ℕ, List, [], ◌∷◌, ◌++◌, map, Some, None, refl, sym, ap, ◌∙◌, rules}
use Rattle.std.specs.Global.{Vec, Box}
use Rattle.std.specs.List.{flat_map}
use Rattle.lynx_lexer.specs.declared.sign.Sign.{Sign}
use Rattle.lynx_tree.specs.declared.expression.Expr as expr
use Rattle.lynx_tree.specs.declared.expression.Expr.TheViews.{the_lemmas}
use Rattle.lynx_tree.specs.declared.expression.TermSign.{TermSign}
use Rattle.lynx_tree.specs.declared.statement.Stmt as stmt
use Rattle.lynx_tree.specs.declared.statement.Stmt.TheViews.{the_lemmas as the_stmt_lemmas}
use Rattle.lynx_tree.specs.declared.statement.Handler.{Handler}
use Rattle.lynx_tree.specs.Trees as trees
use Rattle.lynx_tree.specs.Trees.{expr_tree, expr_trees, expr_list, sum_tail, sum_list, term_tail, term_list, stmt_tree, stmt_trees, stmt_list, handler_trees, handler_list}

pub flat_map-map : {X Y A : Type 0} (f : Y → List A) (g : X → Y) (xs : List X) → flat_map f (map g xs) ≡ flat_map (λ x. f (g x)) xs
flat_map-map f g [] = refl
flat_map-map {A = A} f g (x ∷ xs) = ap (λ (ys : List A). f (g x) ++ ys) (flat_map-map f g xs)

-- ---- the members of a vector inside an expression

exprs_are : {n : _} (row : expr.Row_of-Expr n) → expr_trees row ≡ expr_list (expr.items-the_row-Expr n row)
exprs_are expr.end_of-Expr = refl
exprs_are (expr.more_of-Expr e rest) = ap (trees.more_exprs (expr_tree e)) (exprs_are rest)

sums_are : {n : _} (row : expr.Row_of-Expr-Sums-1-2 n) → sum_tail row ≡ sum_list (expr.items-the_row-Expr-Sums-1-2 n row)
sums_are expr.end_of-Expr-Sums-1-2 = refl
sums_are (expr.more_of-Expr-Sums-1-2 sign e rest) = ap (trees.more_sums sign (expr_tree e)) (sums_are rest)

terms_are : {n : _} (row : expr.Row_of-Expr-Terms-1-2 n) → term_tail row ≡ term_list (expr.items-the_row-Expr-Terms-1-2 n row)
terms_are expr.end_of-Expr-Terms-1-2 = refl
terms_are (expr.more_of-Expr-Terms-1-2 sign e rest) = ap (trees.more_terms sign (expr_tree e)) (terms_are rest)

pub expr_tree-Or : (v : Box (Vec expr.Expr)) → expr_tree (expr.Or v) ≡ trees.Or (expr_list v.value.items)
expr_tree-Or v = search (rules, exprs_are, the_lemmas)

pub expr_tree-And : (v : Box (Vec expr.Expr)) → expr_tree (expr.And v) ≡ trees.And (expr_list v.value.items)
expr_tree-And v = search (rules, exprs_are, the_lemmas)

pub expr_tree-Terms : (first : Box expr.Expr) (v : Box (Vec (TermSign × expr.Expr))) → expr_tree (expr.Terms first v) ≡ trees.Term (expr_tree first.value) (term_list v.value.items)
expr_tree-Terms first v = search (rules, terms_are, the_lemmas)

pub expr_tree-Sums : (first : Box expr.Expr) (v : Box (Vec (Sign × expr.Expr))) → expr_tree (expr.Sums first v) ≡ trees.Sum (expr_tree first.value) (sum_list v.value.items)
expr_tree-Sums first v = search (rules, sums_are, the_lemmas)

-- ---- the members of a vector inside a statement

stmts_are : {n : _} (row : stmt.Row_of-Stmt n) → stmt_trees row ≡ stmt_list (stmt.items-the_row-Stmt n row)
stmts_are stmt.end_of-Stmt = refl
stmts_are (stmt.more_of-Stmt s rest) = ap (trees.more_stmts (stmt_tree s)) (stmts_are rest)

pub while_tree : (condition : expr.Expr) (body : Vec stmt.Stmt) → stmt_tree (stmt.While condition body) ≡ trees.While (expr_tree condition) (stmt_list body.items)
while_tree condition body = search (rules, stmts_are, the_stmt_lemmas)

pub accept_tree : (op link : List ℕ) (names : Vec (List ℕ)) (body : Vec stmt.Stmt) → stmt_tree (stmt.Accept op link names body) ≡ trees.Accept op link names.items (stmt_list body.items)
accept_tree op link names body = search (rules, stmts_are, the_stmt_lemmas)

handlers_are : {n : _} (row : stmt.Row_of-Handler n) → handler_trees row ≡ handler_list (stmt.items-the_row-Handler n row)
handlers_are stmt.end_of-Handler = refl
handlers_are (stmt.more_of-Handler n shape body rest) =
    let first = stmts_are body ∙ ap stmt_list (sym (stmt.items_shown-the_row-Stmt-0 shape body)) in
    λ i. trees.more_handlers n (first i) (handlers_are rest i)

pub try_tree : (body : Vec stmt.Stmt) (handlers : Vec Handler) → stmt_tree (stmt.Try body handlers) ≡ trees.Try (stmt_list body.items) (handler_list handlers.items)
try_tree body handlers = search (rules, stmts_are, handlers_are, the_stmt_lemmas)

pub if_tree : (condition : Box expr.Expr) (then : Vec stmt.Stmt) → stmt_tree (stmt.If condition then None) ≡ trees.If (expr_tree condition.value) (stmt_list then.items)
if_tree condition then = search (rules, stmts_are, the_stmt_lemmas)

pub if_else_tree : (condition : Box expr.Expr) (then otherwise : Vec stmt.Stmt) → stmt_tree (stmt.If condition then (Some otherwise)) ≡ trees.IfElse (expr_tree condition.value) (stmt_list then.items) (stmt_list otherwise.items)
if_else_tree condition then otherwise = search (rules, stmts_are, the_stmt_lemmas)
