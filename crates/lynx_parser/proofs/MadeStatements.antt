-- The trees of statements that are made of their parts.
use Rattle.std.proofs.Common.{◌≡◌, ℕ, List, [], ◌∷◌, map, option_map, Option, Some, None, refl, ap, ◌∙◌}
use Rattle.std.specs.Global.{Vec, Box}
use Rattle.lynx_tree.specs.declared.expression.Expr as expr
use Rattle.lynx_tree.specs.declared.statement.Stmt as stmt
use Rattle.lynx_tree.specs.declared.statement.Handler.{Handler}
use Rattle.lynx_tree.specs.Trees as trees
use Rattle.lynx_tree.specs.Trees.{StmtTree, StmtTrees, HandlerTrees, ExprTrees, expr_tree, boxed_tree, stmt_tree, stmt_list, handler_list}
use Rattle.lynx_descent.specs.ReadingExpressions.{exprs_of}
use Rattle.lynx_descent.specs.ReadingStatements.{handlers_of, body_of, handler_of, assign_of, choice_of}
use Rattle.lynx_parser.proofs.Made.{exprs_listed}
use Rattle.lynx_tree.proofs.Views.{while_tree, accept_tree, try_tree, if_tree, if_else_tree}

pub stmts_listed : (ss : List stmt.Stmt) → stmt_list ss ≡ body_of ss
stmts_listed [] = refl
stmts_listed (s ∷ ss) = ap (trees.more_stmts (stmt_tree s)) (stmts_listed ss)

handlers_listed : (hs : List Handler) → handler_list hs ≡ handlers_of (map handler_of hs)
handlers_listed [] = refl
handlers_listed (h ∷ hs) = λ i. trees.more_handlers h.name (stmts_listed h.body.items i) (handlers_listed hs i)

pub made_assign : (n : List ℕ) (index : Option (Box expr.Expr)) (value : expr.Expr) → stmt_tree (stmt.Assign n index value) ≡ assign_of n (option_map boxed_tree index) (expr_tree value)
made_assign n None value = refl
made_assign n (Some index) value = refl

pub made_connect : (op link : List ℕ) (values : Vec expr.Expr) (results : Vec (List ℕ)) → stmt_tree (stmt.Connect op link values results) ≡ trees.Connect op link (exprs_of (map expr_tree values.items)) results.items
made_connect op link values results = ap (λ (es : ExprTrees). trees.Connect op link es results.items) (exprs_listed values.items)

pub made_reply : (values : Vec expr.Expr) → stmt_tree (stmt.Reply values) ≡ trees.Reply (exprs_of (map expr_tree values.items))
made_reply values = ap trees.Reply (exprs_listed values.items)

pub made_while : (condition : expr.Expr) (body : Vec stmt.Stmt) → stmt_tree (stmt.While condition body) ≡ trees.While (expr_tree condition) (body_of body.items)
made_while condition body = while_tree condition body ∙ ap (trees.While (expr_tree condition)) (stmts_listed body.items)

pub made_accept : (op link : List ℕ) (names : Vec (List ℕ)) (body : Vec stmt.Stmt) → stmt_tree (stmt.Accept op link names body) ≡ trees.Accept op link names.items (body_of body.items)
made_accept op link names body = accept_tree op link names body ∙ ap (trees.Accept op link names.items) (stmts_listed body.items)

pub made_try : (body : Vec stmt.Stmt) (handlers : Vec Handler) → stmt_tree (stmt.Try body handlers) ≡ trees.Try (body_of body.items) (handlers_of (map handler_of handlers.items))
made_try body handlers = try_tree body handlers ∙ (λ i. trees.Try (stmts_listed body.items i) (handlers_listed handlers.items i))

pub made_choice : (condition : Box expr.Expr) (then : Vec stmt.Stmt) (otherwise : Option (Vec stmt.Stmt))
    → stmt_tree (stmt.If condition then otherwise) ≡ choice_of (boxed_tree condition) (body_of then.items) (option_map (λ v. body_of v.items) otherwise)
made_choice condition then None = if_tree condition then ∙ ap (trees.If (expr_tree condition.value)) (stmts_listed then.items)
made_choice condition then (Some otherwise) =
    if_else_tree condition then otherwise ∙ (λ i. trees.IfElse (expr_tree condition.value) (stmts_listed then.items i) (stmts_listed otherwise.items i))

pub ruleset made_statements = (made_assign, made_connect, made_reply, made_while, made_accept, made_try, made_choice)
