-- What a walk over the parts of a statement says of it, where others stand inside.
use Rattle.std.proofs.Common.{◌≡◌, ℕ, ◌+◌, ◌<◌, ◌≤◌, List, [], ◌∷◌, ◌++◌, Option, Some, None, length, drop, get_or, sym, ap, ◌∙◌, arith, length-append}
use Rattle.std.specs.Global.{Vec, Box}
use Rattle.lynx_lexer.specs.declared.keyword.Keyword.TheVariants as keywords
use Rattle.lynx_lexer.specs.declared.sign.Sign.TheVariants as signs
use Rattle.lynx_tree.specs.declared.declaration.TypeName.{TypeName}
use Rattle.lynx_tree.specs.declared.expression.Expr as expr
use Rattle.lynx_tree.specs.declared.statement.Handler.{Handler}
use Rattle.lynx_tree.specs.declared.statement.Stmt as stmt
use Rattle.lynx_tree.specs.Grammar.{mark, word, expr_marks, names_marks, stmt_marks, stmts_marks, handlers_marks}
use Rattle.lynx_tree.specs.Trees.{ExprTree, StmtTree, StmtTrees, HandlerTrees, expr_tree, stmt_tree, stmt_list, handler_list, else_list, choice_tree}
use Rattle.lynx_tree.specs.Trees as trees
use Rattle.lynx_tree.proofs.Views.{while_tree, accept_tree, try_tree, if_tree, if_else_tree}
use Rattle.typing_rules.specs.Expressions.{expr_size, value_faults}
use Rattle.typing_rules.specs.Names.{Scope, results_of}
use Rattle.typing_rules.specs.Progress.{first_with}
use Rattle.typing_rules.specs.Rules.{Fault, Request, Asks, condition_is_bool, names_exception}
use Rattle.typing_rules.specs.Statements.{stmts_size, stmt_faults, stmts_faults, handlers_faults}
use Rattle.typing_rules.proofs.Members.{at_place}
use Rattle.typing_statements.specs.Parts.{accept_faults}
use Rattle.typing_statements.proofs.Actions.{found_then}
use Rattle.typing_statements.proofs.Sizes.{stmt-size}

-- ---- the trees of what the program matches

pub choice_is : (s : stmt.Stmt) (condition : Box expr.Expr) (then : Vec stmt.Stmt) (otherwise : Option (Vec stmt.Stmt)) (x : expr.Expr) (xs : List stmt.Stmt) → s ≡ stmt.If condition then otherwise → x ≡ condition.value → xs ≡ then.items
    → stmt_tree s ≡ choice_tree (expr_tree x) (stmt_list xs) (else_list otherwise)
choice_is s condition then None x xs is head are = ap stmt_tree is ∙ if_tree condition then ∙ (λ i. trees.If (expr_tree (sym head i)) (stmt_list (sym are i)))
choice_is s condition then (Some otherwise) x xs is head are =
    ap stmt_tree is ∙ if_else_tree condition then otherwise ∙ (λ i. trees.IfElse (expr_tree (sym head i)) (stmt_list (sym are i)) (stmt_list otherwise.items))

pub while_is : (s : stmt.Stmt) (condition : expr.Expr) (body : Vec stmt.Stmt) (xs : List stmt.Stmt) → s ≡ stmt.While condition body → xs ≡ body.items → stmt_tree s ≡ trees.While (expr_tree condition) (stmt_list xs)
while_is s condition body xs is are = ap stmt_tree is ∙ while_tree condition body ∙ ap (λ ys. trees.While (expr_tree condition) (stmt_list ys)) (sym are)

pub accept_is : (s : stmt.Stmt) (op link : List ℕ) (names : Vec (List ℕ)) (body : Vec stmt.Stmt) (ns : List (List ℕ)) (xs : List stmt.Stmt) → s ≡ stmt.Accept op link names body → ns ≡ names.items → xs ≡ body.items
    → stmt_tree s ≡ trees.Accept op link ns (stmt_list xs)
accept_is s op link names body ns xs is names_are are = ap stmt_tree is ∙ accept_tree op link names body ∙ (λ i. trees.Accept op link (sym names_are i) (stmt_list (sym are i)))

pub try_is : (s : stmt.Stmt) (body : Vec stmt.Stmt) (handlers : Vec Handler) (xs : List stmt.Stmt) (hs : List Handler) → s ≡ stmt.Try body handlers → xs ≡ body.items → hs ≡ handlers.items
    → stmt_tree s ≡ trees.Try (stmt_list xs) (handler_list hs)
try_is s body handlers xs hs is are handlers_are = ap stmt_tree is ∙ try_tree body handlers ∙ (λ i. trees.Try (stmt_list (sym are i)) (handler_list (sym handlers_are i)))

-- ---- a statement that is this tree

module _ (t u : StmtTree) (is : u ≡ t) where
  pub stmt_at : (a b : ℕ) → b ≡ a + length (stmt_marks 0 t) → b ≡ a + length (stmt_marks 0 u)
  stmt_at a b h = h ∙ ap (λ x. a + length (stmt_marks 0 x)) (sym is)

  pub stmt_first : (s : Scope) (r : Request) (a : ℕ) (o o1 : Option Fault) → o1 ≡ first_with o (stmt_faults s r a t) → o1 ≡ first_with o (stmt_faults s r a u)
  stmt_first s r a o o1 h = h ∙ ap (λ x. first_with o (stmt_faults s r a x)) (sym is)

-- ---- sizes

pub if-size : (c : ExprTree) (then : StmtTrees) → length (stmt_marks 0 (trees.If c then)) ≡ expr_size c + stmts_size then + 3
if-size c then = omega (arith, length-append (expr_marks 0 c) (word 0 keywords.Then ∷ (stmts_marks 0 then ++ word 0 keywords.End ∷ [])), length-append (stmts_marks 0 then) (word 0 keywords.End ∷ []))

pub if_else-size : (c : ExprTree) (then otherwise : StmtTrees) → length (stmt_marks 0 (trees.IfElse c then otherwise)) ≡ expr_size c + stmts_size then + stmts_size otherwise + 4
if_else-size c then otherwise =
    omega (
      arith,
      length-append (expr_marks 0 c) (word 0 keywords.Then ∷ (stmts_marks 0 then ++ word 0 keywords.Else ∷ (stmts_marks 0 otherwise ++ word 0 keywords.End ∷ []))),
      length-append (stmts_marks 0 then) (word 0 keywords.Else ∷ (stmts_marks 0 otherwise ++ word 0 keywords.End ∷ [])),
      length-append (stmts_marks 0 otherwise) (word 0 keywords.End ∷ []),
    )

pub while-size : (c : ExprTree) (body : StmtTrees) → length (stmt_marks 0 (trees.While c body)) ≡ expr_size c + stmts_size body + 3
while-size c body = omega (arith, length-append (expr_marks 0 c) (word 0 keywords.Do ∷ (stmts_marks 0 body ++ word 0 keywords.End ∷ [])), length-append (stmts_marks 0 body) (word 0 keywords.End ∷ []))

pub try-size : (body : StmtTrees) (handlers : HandlerTrees) → length (stmt_marks 0 (trees.Try body handlers)) ≡ stmts_size body + length (handlers_marks 0 handlers) + 2
try-size body handlers =
    omega (arith, length-append (stmts_marks 0 body) (handlers_marks 0 handlers ++ word 0 keywords.End ∷ []), length-append (handlers_marks 0 handlers) (word 0 keywords.End ∷ []))

-- a choice has at least the tokens of its first side
pub choice_least : (c : ExprTree) (then : StmtTrees) (otherwise : Option StmtTrees) → expr_size c + stmts_size then + 3 ≤ length (stmt_marks 0 (choice_tree c then otherwise))
choice_least c then None = omega (arith, if-size c then)
choice_least c then (Some otherwise) = omega (arith, if_else-size c then otherwise)

-- ---- what is found in the parts is found in the whole

module _ (s : Scope) (r : Request) (a : ℕ) where
  pub if_first : (c : ExprTree) (then : StmtTrees) (b : ℕ) (o o1 o2 : Option Fault) → b ≡ a + expr_size c + 2
      → o1 ≡ first_with o (value_faults condition_is_bool s (a + 1) c) → o2 ≡ first_with o1 (stmts_faults s r b then) → o2 ≡ first_with o (stmt_faults s r a (trees.If c then))
  if_first c then b o o1 o2 at_b e1 e2 =
      found_then o o1 o2 (value_faults condition_is_bool s (a + 1) c) (stmts_faults s r (a + expr_size c + 2) then) (stmts_faults s r b then) e1 e2 (ap (λ i. stmts_faults s r i then) at_b)

  pub if_else_first : (c : ExprTree) (then otherwise : StmtTrees) (b d : ℕ) (o o1 o2 o3 : Option Fault) → b ≡ a + expr_size c + 2 → d ≡ a + expr_size c + stmts_size then + 3
      → o1 ≡ first_with o (value_faults condition_is_bool s (a + 1) c) → o2 ≡ first_with o1 (stmts_faults s r b then) → o3 ≡ first_with o2 (stmts_faults s r d otherwise)
      → o3 ≡ first_with o (stmt_faults s r a (trees.IfElse c then otherwise))
  if_else_first c then otherwise b d o o1 o2 o3 at_b at_d e1 e2 e3 =
      found_then o o2 o3 (stmt_faults s r a (trees.If c then)) (stmts_faults s r (a + expr_size c + stmts_size then + 3) otherwise) (stmts_faults s r d otherwise)
      (if_first c then b o o1 o2 at_b e1 e2) e3 (ap (λ i. stmts_faults s r i otherwise) at_d)

  pub body_first : (op link : List ℕ) (names : List (List ℕ)) (body : StmtTrees) (results : Option (List TypeName)) (b : ℕ) (o o1 o2 : Option Fault) → results ≡ results_of (s op) → b ≡ a + length (names_marks 0 names) + 5
      → o1 ≡ first_with o (accept_faults s a op link names) → o2 ≡ first_with o1 (stmts_faults s (Asks results) b body) → o2 ≡ first_with o (stmt_faults s r a (trees.Accept op link names body))
  body_first op link names body results b o o1 o2 gives at_b e1 e2 =
      found_then o o1 o2 (accept_faults s a op link names) (stmts_faults s (Asks (results_of (s op))) (a + length (names_marks 0 names) + 5) body) (stmts_faults s (Asks results) b body)
      e1 e2 (λ i. stmts_faults s (Asks (gives i)) (at_b i) body)

  pub try_first : (body : StmtTrees) (handlers : HandlerTrees) (b d : ℕ) (o o1 o2 : Option Fault) → b ≡ a + 1 → d ≡ a + stmts_size body + 1
      → o1 ≡ first_with o (stmts_faults s r b body) → o2 ≡ first_with o1 (handlers_faults s r d handlers) → o2 ≡ first_with o (stmt_faults s r a (trees.Try body handlers))
  try_first body handlers b d o o1 o2 at_b at_d e1 e2 =
      found_then o o1 o2 (stmts_faults s r (a + 1) body) (handlers_faults s r (a + stmts_size body + 1) handlers) (handlers_faults s r d handlers)
      (e1 ∙ ap (λ i. first_with o (stmts_faults s r i body)) at_b) e2 (ap (λ i. handlers_faults s r i handlers) at_d)

-- ---- the next statement and those behind it

stmts-more : (s : StmtTree) (rest : StmtTrees) → stmts_size (trees.more_stmts s rest) ≡ length (stmt_marks 0 s) + 1 + stmts_size rest
stmts-more s rest = omega (arith, length-append (stmt_marks 1 s) (mark 0 signs.Semicolon ∷ stmts_marks 0 rest), stmt-size 1 s)

pub next_stmt : (i : ℕ) (ss : List stmt.Stmt) (x : stmt.Stmt) → i < length ss → x ≡ get_or ss i x
    → stmts_size (stmt_list (drop i ss)) ≡ length (stmt_marks 0 (stmt_tree x)) + 1 + stmts_size (stmt_list (drop (i + 1) ss))
next_stmt i ss x lt is = ap (λ xs. stmts_size (stmt_list xs)) (at_place ss i x lt is) ∙ stmts-more (stmt_tree x) (stmt_list (drop (i + 1) ss))

pub stmt-split : (s : Scope) (r : Request) (i a : ℕ) (ss : List stmt.Stmt) (x : stmt.Stmt) (b : ℕ) → i < length ss → x ≡ get_or ss i x → b ≡ a + length (stmt_marks 0 (stmt_tree x))
    → stmts_faults s r a (stmt_list (drop i ss)) ≡ stmt_faults s r a (stmt_tree x) ++ stmts_faults s r (b + 1) (stmt_list (drop (i + 1) ss))
stmt-split s r i a ss x b lt is at_b =
    ap (λ xs. stmts_faults s r a (stmt_list xs)) (at_place ss i x lt is) ∙ (λ j. stmt_faults s r a (stmt_tree x) ++ stmts_faults s r (sym at_b j + 1) (stmt_list (drop (i + 1) ss)))

-- ---- the next handler and those behind it

handlers-more : (n : List ℕ) (body : StmtTrees) (rest : HandlerTrees) → length (handlers_marks 0 (trees.more_handlers n body rest)) ≡ 3 + stmts_size body + length (handlers_marks 0 rest)
handlers-more n body rest = omega (arith, length-append (stmts_marks 0 body) (handlers_marks 0 rest))

pub next_handler : (i : ℕ) (hs : List Handler) (h : Handler) → i < length hs → h ≡ get_or hs i h
    → length (handlers_marks 0 (handler_list (drop i hs))) ≡ 3 + stmts_size (stmt_list h.body.items) + length (handlers_marks 0 (handler_list (drop (i + 1) hs)))
next_handler i hs h lt is = ap (λ xs. length (handlers_marks 0 (handler_list xs))) (at_place hs i h lt is) ∙ handlers-more h.name (stmt_list h.body.items) (handler_list (drop (i + 1) hs))

pub handler-split : (s : Scope) (r : Request) (i a : ℕ) (hs : List Handler) (h : Handler) (xs : List stmt.Stmt) (b d : ℕ) → i < length hs → h ≡ get_or hs i h → xs ≡ h.body.items → b ≡ a + 3 → d ≡ a + stmts_size (stmt_list h.body.items) + 3
    → handlers_faults s r a (handler_list (drop i hs)) ≡ (names_exception (a + 1) h.name ++ stmts_faults s r b (stmt_list xs)) ++ handlers_faults s r d (handler_list (drop (i + 1) hs))
handler-split s r i a hs h xs b d lt is are at_b at_d =
    ap (λ ys. handlers_faults s r a (handler_list ys)) (at_place hs i h lt is)
    ∙ (λ j. (names_exception (a + 1) h.name ++ stmts_faults s r (sym at_b j) (stmt_list (sym are j))) ++ handlers_faults s r (sym at_d j) (handler_list (drop (i + 1) hs)))
