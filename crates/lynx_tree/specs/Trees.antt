-- Trees of modules, without where they lie in memory.
use Rattle.std.specs.Prelude.{ℕ, ℤ, List, [], ◌∷◌, Option, None, Some, map}
use Rattle.lynx_lexer.specs.declared.sign.Sign.{Sign}
use Rattle.lynx_tree.specs.declared.expression.TermSign.{TermSign}
use Rattle.lynx_tree.specs.declared.declaration.TypeName.{TypeName}
use Rattle.lynx_tree.specs.declared.declaration.OpDecl.{OpDecl}
use Rattle.lynx_tree.specs.declared.declaration.VarDecl.{VarDecl}
use Rattle.lynx_tree.specs.declared.declaration.EntryDecl.{EntryDecl}
use Rattle.lynx_tree.specs.declared.module.Module.{Module}
use Rattle.lynx_tree.specs.declared.statement.Handler.{Handler}
use Rattle.std.specs.Global.{Vec, Box}
use Rattle.lynx_tree.specs.declared.expression.Expr as expr
use Rattle.lynx_tree.specs.declared.statement.Stmt as stmt

-- an expression; a chain of one rank is a list
mutual
  pub data ExprTree : Type 0 where
    Or : ExprTrees → ExprTree
    And : ExprTrees → ExprTree
    Relation : ExprTree → Sign → ExprTree → ExprTree
    Sum : ExprTree → SumTail → ExprTree
    Term : ExprTree → TermTail → ExprTree
    Minus : ExprTree → ExprTree
    Not : ExprTree → ExprTree
    Number : ℤ → ExprTree
    Text : List ℕ → ExprTree
    True : ExprTree
    False : ExprTree
    Name : List ℕ → ExprTree
    Member : List ℕ → ExprTree → ExprTree
    Bracket : ExprTree → ExprTree

  pub data ExprTrees : Type 0 where
    no_exprs : ExprTrees
    more_exprs : ExprTree → ExprTrees → ExprTrees

  -- members behind `+` and `-`
  pub data SumTail : Type 0 where
    no_sums : SumTail
    more_sums : Sign → ExprTree → SumTail → SumTail

  -- members behind `*`, `/` and `mod`
  pub data TermTail : Type 0 where
    no_terms : TermTail
    more_terms : TermSign → ExprTree → TermTail → TermTail

-- a statement; an assignment to a member of a row has its index
mutual
  pub data StmtTree : Type 0 where
    Assign : List ℕ → ExprTree → StmtTree
    AssignMember : List ℕ → ExprTree → ExprTree → StmtTree
    If : ExprTree → StmtTrees → StmtTree
    IfElse : ExprTree → StmtTrees → StmtTrees → StmtTree
    While : ExprTree → StmtTrees → StmtTree
    Write : ExprTree → StmtTree
    Await : ExprTree → StmtTree
    Stop : StmtTree
    Raise : List ℕ → StmtTree
    New : List ℕ → List ℕ → StmtTree
    Destroy : List ℕ → StmtTree
    Bind : List ℕ → List ℕ → StmtTree
    Unbind : List ℕ → List ℕ → StmtTree
    Connect : List ℕ → List ℕ → ExprTrees → List (List ℕ) → StmtTree
    Accept : List ℕ → List ℕ → List (List ℕ) → StmtTrees → StmtTree
    Reply : ExprTrees → StmtTree
    Try : StmtTrees → HandlerTrees → StmtTree

  pub data StmtTrees : Type 0 where
    no_stmts : StmtTrees
    more_stmts : StmtTree → StmtTrees → StmtTrees

  pub data HandlerTrees : Type 0 where
    no_handlers : HandlerTrees
    more_handlers : List ℕ → StmtTrees → HandlerTrees → HandlerTrees

pub record OpTree : Type 0 where
  pub name : List ℕ
  pub arguments : List TypeName
  pub results : List TypeName

pub record VarTree : Type 0 where
  pub name : List ℕ
  pub kind : TypeName

pub record EntryTree : Type 0 where
  pub name : List ℕ
  pub op : List ℕ
  pub parameters : List (List ℕ)
  pub vars : List VarTree
  pub body : StmtTrees

pub record ModuleTree : Type 0 where
  pub name : List ℕ
  pub ops : List OpTree
  pub params : List VarTree
  pub vars : List VarTree
  pub entries : List EntryTree
  pub body : StmtTrees

-- a choice, with its other side where there is one
abbrev pub choice_tree : ExprTree → StmtTrees → Option StmtTrees → StmtTree
choice_tree condition then None = If condition then
choice_tree condition then (Some otherwise) = IfElse condition then otherwise

-- ---- the tree that a value of the program holds

abbrev mutual
  pub expr_tree : expr.Expr → ExprTree
  expr_tree (expr.Or' p shape all) = Or (expr_trees all)
  expr_tree (expr.And' p shape all) = And (expr_trees all)
  expr_tree (expr.Relation' sign p first q second) = Relation (expr_tree first) sign (expr_tree second)
  expr_tree (expr.Sum' sign p first q second) = Sum (expr_tree first) (more_sums sign (expr_tree second) no_sums)
  expr_tree (expr.Sums' p first q shape rest) = Sum (expr_tree first) (sum_tail rest)
  expr_tree (expr.Term' sign p first q second) = Term (expr_tree first) (more_terms sign (expr_tree second) no_terms)
  expr_tree (expr.Terms' p first q shape rest) = Term (expr_tree first) (term_tail rest)
  expr_tree (expr.Minus' p inner) = Minus (expr_tree inner)
  expr_tree (expr.Not' p inner) = Not (expr_tree inner)
  expr_tree (expr.Number n) = Number n
  expr_tree (expr.Text inside) = Text inside
  expr_tree expr.True = True
  expr_tree expr.False = False
  expr_tree (expr.Name name) = Name name
  expr_tree (expr.Member' name p index) = Member name.value (expr_tree index)
  expr_tree (expr.Bracket' p inner) = Bracket (expr_tree inner)

  pub expr_trees : {m : _} → expr.Row_of-Expr m → ExprTrees
  expr_trees expr.end_of-Expr = no_exprs
  expr_trees (expr.more_of-Expr e rest) = more_exprs (expr_tree e) (expr_trees rest)

  pub sum_tail : {m : _} → expr.Row_of-Expr-Sums-1-2 m → SumTail
  sum_tail expr.end_of-Expr-Sums-1-2 = no_sums
  sum_tail (expr.more_of-Expr-Sums-1-2 sign e rest) = more_sums sign (expr_tree e) (sum_tail rest)

  pub term_tail : {m : _} → expr.Row_of-Expr-Terms-1-2 m → TermTail
  term_tail expr.end_of-Expr-Terms-1-2 = no_terms
  term_tail (expr.more_of-Expr-Terms-1-2 sign e rest) = more_terms sign (expr_tree e) (term_tail rest)

-- the tree of a boxed expression
abbrev pub boxed_tree : Box expr.Expr → ExprTree
boxed_tree b = expr_tree b.value

-- the trees of a list of expressions
abbrev pub expr_list : List expr.Expr → ExprTrees
expr_list [] = no_exprs
expr_list (e ∷ es) = more_exprs (expr_tree e) (expr_list es)

-- the members of a sum or a term
abbrev pub sum_list : List (Sign × expr.Expr) → SumTail
sum_list [] = no_sums
sum_list (m ∷ ms) = more_sums m.0 (expr_tree m.1) (sum_list ms)

abbrev pub term_list : List (TermSign × expr.Expr) → TermTail
term_list [] = no_terms
term_list (m ∷ ms) = more_terms m.0 (expr_tree m.1) (term_list ms)

-- an assignment, with its index where it has one
abbrev pub assign_tree : List ℕ → Option (Box expr.Expr) → expr.Expr → StmtTree
assign_tree name None value = Assign name (expr_tree value)
assign_tree name (Some index) value = AssignMember name (expr_tree index.value) (expr_tree value)

abbrev mutual
  pub stmt_tree : stmt.Stmt → StmtTree
  stmt_tree (stmt.Assign name index value) = assign_tree name index value
  stmt_tree (stmt.If' condition shape then held) = if_tree (expr_tree condition.value) (stmt_trees then) held
  stmt_tree (stmt.While' condition shape body) = While (expr_tree condition) (stmt_trees body)
  stmt_tree (stmt.Write value) = Write (expr_tree value)
  stmt_tree (stmt.Await condition) = Await (expr_tree condition)
  stmt_tree stmt.Stop = Stop
  stmt_tree (stmt.Raise name) = Raise name
  stmt_tree (stmt.New first second) = New first second
  stmt_tree (stmt.Destroy name) = Destroy name
  stmt_tree (stmt.Bind link entry) = Bind link entry
  stmt_tree (stmt.Unbind link entry) = Unbind link entry
  stmt_tree (stmt.Connect op link values results) = Connect op link (expr_list values.items) results.items
  stmt_tree (stmt.Accept' op link names shape body) = Accept op link names.items (stmt_trees body)
  stmt_tree (stmt.Reply values) = Reply (expr_list values.items)
  stmt_tree (stmt.Try' shape body others handlers) = Try (stmt_trees body) (handler_trees handlers)

  pub if_tree : ExprTree → StmtTrees → stmt.Held-Stmt-If-2 → StmtTree
  if_tree condition then stmt.None' = If condition then
  if_tree condition then (stmt.Some' shape otherwise) = IfElse condition then (stmt_trees otherwise)

  pub stmt_trees : {m : _} → stmt.Row_of-Stmt m → StmtTrees
  stmt_trees stmt.end_of-Stmt = no_stmts
  stmt_trees (stmt.more_of-Stmt s rest) = more_stmts (stmt_tree s) (stmt_trees rest)

  pub handler_trees : {m : _} → stmt.Row_of-Handler m → HandlerTrees
  handler_trees stmt.end_of-Handler = no_handlers
  handler_trees (stmt.more_of-Handler name shape body rest) = more_handlers name (stmt_trees body) (handler_trees rest)

-- the trees of a list of statements
abbrev pub stmt_list : List stmt.Stmt → StmtTrees
stmt_list [] = no_stmts
stmt_list (s ∷ ss) = more_stmts (stmt_tree s) (stmt_list ss)

-- the other side of a choice
abbrev pub else_list : Option (Vec stmt.Stmt) → Option StmtTrees
else_list None = None
else_list (Some otherwise) = Some (stmt_list otherwise.items)

-- the trees of a list of handlers
abbrev pub handler_list : List Handler → HandlerTrees
handler_list [] = no_handlers
handler_list (h ∷ hs) = more_handlers h.name (stmt_list h.body.items) (handler_list hs)

-- the tree of an index
abbrev pub index_tree : Option (Box expr.Expr) → Option ExprTree
index_tree None = None
index_tree (Some index) = Some (expr_tree index.value)

abbrev pub op_tree : OpDecl → OpTree
op_tree op = record { name = op.name; arguments = op.arguments.items; results = op.results.items }

abbrev pub var_tree : VarDecl → VarTree
var_tree var = record { name = var.name; kind = var.kind }

abbrev pub entry_tree : EntryDecl → EntryTree
entry_tree entry =
    record {
      name = entry.name;
      op = entry.op;
      parameters = entry.parameters.items;
      vars = map var_tree entry.vars.items;
      body = stmt_list entry.body.items;
    }

abbrev pub module_tree : Module → ModuleTree
module_tree m = record {
  name = m.name;
  ops = map op_tree m.ops.items;
  params = map var_tree m.params.items;
  vars = map var_tree m.vars.items;
  entries = map entry_tree m.entries.items;
  body = stmt_list m.body.items;
}
