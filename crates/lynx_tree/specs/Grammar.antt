-- The grammar: which list of tokens each tree has, with the nesting at each token.
use Rattle.std.specs.Prelude.{◌≡◌, ℕ, suc, ◌≤◌, List, [], ◌∷◌, ◌++◌, map, ⊤, Option, None, Some}
use Rattle.std.specs.List.{flat_map, AllByRecursion}
use Rattle.lynx_lexer.specs.declared.keyword.Keyword.{Keyword}
use Rattle.lynx_lexer.specs.declared.keyword.Keyword.TheVariants as keywords
use Rattle.lynx_lexer.specs.declared.sign.Sign.{Sign}
use Rattle.lynx_lexer.specs.declared.sign.Sign.TheVariants as signs
use Rattle.lynx_lexer.specs.declared.token.Kind.{Kind}
use Rattle.lynx_lexer.specs.declared.token.Kind.TheVariants as kinds
use Rattle.lynx_tree.specs.declared.expression.TermSign.{TermSign}
use Rattle.lynx_tree.specs.declared.expression.TermSign.TheVariants as term_signs
use Rattle.lynx_tree.specs.declared.declaration.TypeName.{TypeName}
use Rattle.lynx_tree.specs.declared.declaration.TypeName.TheVariants as types
use Rattle.lynx_tree.specs.Trees.{ExprTree, ExprTrees, SumTail, TermTail, StmtTree, StmtTrees}
use Rattle.lynx_tree.specs.Trees.{HandlerTrees, OpTree, VarTree, EntryTree, ModuleTree}
use Rattle.lynx_tree.specs.Trees as trees

-- a token's kind, and how many brackets and statements are open at it
pub record Mark : Type 0 where
  pub kind : Kind
  pub depth : ℕ

abbrev pub word : ℕ → Keyword → Mark
word d keyword = record { kind = kinds.Keyword keyword; depth = d }

abbrev pub mark : ℕ → Sign → Mark
mark d sign = record { kind = kinds.Sign sign; depth = d }

abbrev pub name : ℕ → List ℕ → Mark
name d bytes = record { kind = kinds.Name bytes; depth = d }

-- lists with commas between
abbrev pub commas : ℕ → List (List Mark) → List Mark
commas d [] = []
commas d (item ∷ items) = item ++ flat_map (λ next. mark d signs.Comma ∷ next) items

-- a list with commas, in brackets that are open around it
abbrev pub bracketed : ℕ → List Mark → List Mark
bracketed d inside = mark (suc d) signs.Open ∷ (inside ++ mark (suc d) signs.Close ∷ [])

abbrev pub names_marks : ℕ → List (List ℕ) → List Mark
names_marks d names = bracketed d (commas (suc d) (map (λ n. name (suc d) n ∷ []) names))

-- ---- expressions

abbrev pub term_sign : ℕ → TermSign → Mark
term_sign d term_signs.Times = mark d signs.Times
term_sign d term_signs.Over = mark d signs.Over
term_sign d term_signs.Mod = word d keywords.Mod

abbrev mutual
  pub expr_marks : ℕ → ExprTree → List Mark
  expr_marks d (trees.Or es) = chain_marks d (word d keywords.Or) es
  expr_marks d (trees.And es) = chain_marks d (word d keywords.And) es
  expr_marks d (trees.Relation first sign second) = expr_marks d first ++ mark d sign ∷ expr_marks d second
  expr_marks d (trees.Sum first rest) = expr_marks d first ++ sum_marks d rest
  expr_marks d (trees.Term first rest) = expr_marks d first ++ term_marks d rest
  expr_marks d (trees.Minus inner) = mark d signs.Minus ∷ expr_marks d inner
  expr_marks d (trees.Not inner) = word d keywords.Not ∷ expr_marks d inner
  expr_marks d (trees.Number n) = record { kind = kinds.Number n; depth = d } ∷ []
  expr_marks d (trees.Text inside) = record { kind = kinds.Text inside; depth = d } ∷ []
  expr_marks d trees.True = word d keywords.True ∷ []
  expr_marks d trees.False = word d keywords.False ∷ []
  expr_marks d (trees.Name n) = name d n ∷ []
  expr_marks d (trees.Member n index) =
      name d n ∷ mark (suc d) signs.OpenRow ∷ (expr_marks (suc d) index ++ mark (suc d) signs.CloseRow ∷ [])
  expr_marks d (trees.Bracket inner) = mark (suc d) signs.Open ∷ (expr_marks (suc d) inner ++ mark (suc d) signs.Close ∷ [])

  -- expressions with a token between
  pub chain_marks : ℕ → Mark → ExprTrees → List Mark
  chain_marks d between trees.no_exprs = []
  chain_marks d between (trees.more_exprs e es) = expr_marks d e ++ behind_marks d between es

  pub behind_marks : ℕ → Mark → ExprTrees → List Mark
  behind_marks d between trees.no_exprs = []
  behind_marks d between (trees.more_exprs e es) = between ∷ (expr_marks d e ++ behind_marks d between es)

  pub sum_marks : ℕ → SumTail → List Mark
  sum_marks d trees.no_sums = []
  sum_marks d (trees.more_sums sign e rest) = mark d sign ∷ (expr_marks d e ++ sum_marks d rest)

  pub term_marks : ℕ → TermTail → List Mark
  term_marks d trees.no_terms = []
  term_marks d (trees.more_terms sign e rest) = term_sign d sign ∷ (expr_marks d e ++ term_marks d rest)

-- an index in its brackets
abbrev pub index_marks : ℕ → ExprTree → List Mark
index_marks d index = mark (suc d) signs.OpenRow ∷ (expr_marks (suc d) index ++ mark (suc d) signs.CloseRow ∷ [])

-- values with commas in brackets
abbrev pub exprs_marks : ℕ → ExprTrees → List Mark
exprs_marks d values = bracketed d (chain_marks (suc d) (mark (suc d) signs.Comma) values)

-- how loosely an expression binds: a primary, a unary, a term, a sum, a relation, an `and`, an `or`
abbrev pub rank : ExprTree → ℕ
rank (trees.Or es) = 6
rank (trees.And es) = 5
rank (trees.Relation first sign second) = 4
rank (trees.Sum first rest) = 3
rank (trees.Term first rest) = 2
rank (trees.Minus inner) = 1
rank (trees.Not inner) = 1
rank (trees.Number n) = 0
rank (trees.Text inside) = 0
rank trees.True = 0
rank trees.False = 0
rank (trees.Name n) = 0
rank (trees.Member n index) = 0
rank (trees.Bracket inner) = 0

abbrev pub IsRelationSign : Sign → Type 0
IsRelationSign signs.Equal = ⊤
IsRelationSign signs.NotEqual = ⊤
IsRelationSign signs.Less = ⊤
IsRelationSign signs.AtMost = ⊤
IsRelationSign signs.Greater = ⊤
IsRelationSign signs.AtLeast = ⊤
IsRelationSign _ = ⊥

abbrev pub IsSumSign : Sign → Type 0
IsSumSign signs.Plus = ⊤
IsSumSign signs.Minus = ⊤
IsSumSign _ = ⊥

abbrev pub HasTwo : ExprTrees → Type 0
HasTwo trees.no_exprs = ⊥
HasTwo (trees.more_exprs e trees.no_exprs) = ⊥
HasTwo (trees.more_exprs e (trees.more_exprs f es)) = ⊤

abbrev pub HasSums : SumTail → Type 0
HasSums trees.no_sums = ⊥
HasSums (trees.more_sums sign e rest) = ⊤

abbrev pub HasTerms : TermTail → Type 0
HasTerms trees.no_terms = ⊥
HasTerms (trees.more_terms sign e rest) = ⊤

-- the members of a chain bind more tightly than it, and there are two at least
abbrev mutual
  pub IsExpr : ExprTree → Type 0
  IsExpr (trees.Or es) = HasTwo es × AreExprs 5 es
  IsExpr (trees.And es) = HasTwo es × AreExprs 4 es
  IsExpr (trees.Relation first sign second) = (rank first ≤ 3) × IsExpr first × IsRelationSign sign × (rank second ≤ 3) × IsExpr second
  IsExpr (trees.Sum first rest) = (rank first ≤ 2) × IsExpr first × HasSums rest × AreSums rest
  IsExpr (trees.Term first rest) = (rank first ≤ 1) × IsExpr first × HasTerms rest × AreTerms rest
  IsExpr (trees.Minus inner) = (rank inner ≡ 0) × IsExpr inner
  IsExpr (trees.Not inner) = (rank inner ≡ 0) × IsExpr inner
  IsExpr (trees.Number n) = ⊤
  IsExpr (trees.Text inside) = ⊤
  IsExpr trees.True = ⊤
  IsExpr trees.False = ⊤
  IsExpr (trees.Name n) = ⊤
  IsExpr (trees.Member n index) = IsExpr index
  IsExpr (trees.Bracket inner) = IsExpr inner

  -- expressions that bind at least so tightly
  pub AreExprs : ℕ → ExprTrees → Type 0
  AreExprs most trees.no_exprs = ⊤
  AreExprs most (trees.more_exprs e es) = (rank e ≤ most) × IsExpr e × AreExprs most es

  pub AreSums : SumTail → Type 0
  AreSums trees.no_sums = ⊤
  AreSums (trees.more_sums sign e rest) = IsSumSign sign × (rank e ≤ 2) × IsExpr e × AreSums rest

  pub AreTerms : TermTail → Type 0
  AreTerms trees.no_terms = ⊤
  AreTerms (trees.more_terms sign e rest) = (rank e ≤ 1) × IsExpr e × AreTerms rest

-- ---- statements

-- a statement's own tokens stand at depth d
abbrev mutual
  pub stmt_marks : ℕ → StmtTree → List Mark
  stmt_marks d (trees.Assign n value) = name d n ∷ mark d signs.Becomes ∷ expr_marks d value
  stmt_marks d (trees.AssignMember n index value) =
      name d n ∷ mark (suc d) signs.OpenRow
      ∷ (expr_marks (suc d) index ++ mark (suc d) signs.CloseRow ∷ mark d signs.Becomes ∷ expr_marks d value)
  stmt_marks d (trees.If condition then) =
      word d keywords.If ∷ (expr_marks d condition ++ word d keywords.Then ∷ (stmts_marks d then ++ word d keywords.End ∷ []))
  stmt_marks d (trees.IfElse condition then otherwise) =
      word d keywords.If ∷ (expr_marks d condition
      ++ word d keywords.Then ∷ (stmts_marks d then ++ word d keywords.Else ∷ (stmts_marks d otherwise ++ word d keywords.End ∷ [])))
  stmt_marks d (trees.While condition body) =
      word d keywords.While ∷ (expr_marks d condition ++ word d keywords.Do ∷ (stmts_marks d body ++ word d keywords.End ∷ []))
  stmt_marks d (trees.Write value) = word d keywords.Write ∷ expr_marks d value
  stmt_marks d (trees.Await condition) = word d keywords.Await ∷ expr_marks d condition
  stmt_marks d trees.Stop = word d keywords.Stop ∷ []
  stmt_marks d (trees.Raise n) = word d keywords.Raise ∷ name d n ∷ []
  stmt_marks d (trees.New first second) = word d keywords.New ∷ name d first ∷ mark d signs.Comma ∷ name d second ∷ []
  stmt_marks d (trees.Destroy n) = word d keywords.Destroy ∷ name d n ∷ []
  stmt_marks d (trees.Bind link entry) = word d keywords.Bind ∷ name d link ∷ word d keywords.To ∷ name d entry ∷ []
  stmt_marks d (trees.Unbind link entry) = word d keywords.Unbind ∷ name d link ∷ word d keywords.From ∷ name d entry ∷ []
  stmt_marks d (trees.Connect op link values results) =
      word d keywords.Connect ∷ name d op ∷ word d keywords.On ∷ name d link
      ∷ (exprs_marks d values ++ mark d signs.Colon ∷ names_marks d results)
  stmt_marks d (trees.Accept op link names body) =
      word d keywords.Accept ∷ name d op ∷ word d keywords.On ∷ name d link
      ∷ (names_marks d names ++ word d keywords.Do ∷ (stmts_marks d body ++ word d keywords.End ∷ []))
  stmt_marks d (trees.Reply values) = word d keywords.Reply ∷ exprs_marks d values
  stmt_marks d (trees.Try body handlers) =
      word d keywords.Try ∷ (stmts_marks d body ++ (handlers_marks d handlers ++ word d keywords.End ∷ []))

  -- statements inside d brackets and statements, each with its semicolon
  pub stmts_marks : ℕ → StmtTrees → List Mark
  stmts_marks d trees.no_stmts = []
  stmts_marks d (trees.more_stmts s rest) = stmt_marks (suc d) s ++ mark d signs.Semicolon ∷ stmts_marks d rest

  pub handlers_marks : ℕ → HandlerTrees → List Mark
  handlers_marks d trees.no_handlers = []
  handlers_marks d (trees.more_handlers n body rest) =
      word d keywords.When ∷ name d n ∷ word d keywords.Do ∷ (stmts_marks d body ++ handlers_marks d rest)

abbrev mutual
  pub IsStmt : StmtTree → Type 0
  IsStmt (trees.Assign n value) = IsExpr value
  IsStmt (trees.AssignMember n index value) = IsExpr index × IsExpr value
  IsStmt (trees.If condition then) = IsExpr condition × AreStmts then
  IsStmt (trees.IfElse condition then otherwise) = IsExpr condition × AreStmts then × AreStmts otherwise
  IsStmt (trees.While condition body) = IsExpr condition × AreStmts body
  IsStmt (trees.Write value) = IsExpr value
  IsStmt (trees.Await condition) = IsExpr condition
  IsStmt trees.Stop = ⊤
  IsStmt (trees.Raise n) = ⊤
  IsStmt (trees.New first second) = ⊤
  IsStmt (trees.Destroy n) = ⊤
  IsStmt (trees.Bind link entry) = ⊤
  IsStmt (trees.Unbind link entry) = ⊤
  IsStmt (trees.Connect op link values results) = AreExprs 6 values
  IsStmt (trees.Accept op link names body) = AreStmts body
  IsStmt (trees.Reply values) = AreExprs 6 values
  IsStmt (trees.Try body handlers) = AreStmts body × AreHandlers handlers

  pub AreStmts : StmtTrees → Type 0
  AreStmts trees.no_stmts = ⊤
  AreStmts (trees.more_stmts s rest) = IsStmt s × AreStmts rest

  pub AreHandlers : HandlerTrees → Type 0
  AreHandlers trees.no_handlers = ⊤
  AreHandlers (trees.more_handlers n body rest) = AreStmts body × AreHandlers rest

-- what is assigned to: a variable or a member of a row
abbrev pub target_marks : ℕ → List ℕ → Option ExprTree → List Mark
target_marks d n None = name d n ∷ []
target_marks d n (Some index) = name d n ∷ index_marks d index

-- the other side of a choice, if it has one, and its end
abbrev pub else_marks : ℕ → Option StmtTrees → List Mark
else_marks d None = word d keywords.End ∷ []
else_marks d (Some otherwise) = word d keywords.Else ∷ (stmts_marks d otherwise ++ word d keywords.End ∷ [])

-- an accept up to its body
abbrev pub accept_marks : ℕ → List ℕ → List ℕ → List (List ℕ) → List Mark
accept_marks d op link names =
    word d keywords.Accept ∷ name d op ∷ word d keywords.On ∷ name d link ∷ (names_marks d names ++ word d keywords.Do ∷ [])

-- ---- declarations, which stand in no bracket and no statement

abbrev pub type_marks : ℕ → TypeName → List Mark
type_marks d types.Int = word d keywords.Int ∷ []
type_marks d types.Bool = word d keywords.Bool ∷ []
type_marks d types.Text = word d keywords.Text ∷ []
type_marks d types.Link = word d keywords.Link ∷ []
type_marks d (types.Row n) = word d keywords.Row ∷ record { kind = kinds.Number n; depth = d } ∷ []

abbrev pub types_marks : List TypeName → List Mark
types_marks ts = bracketed 0 (commas 1 (map (type_marks 1) ts))

abbrev pub op_marks : OpTree → List Mark
op_marks op =
    word 0 keywords.Op ∷ name 0 op.name
    ∷ (types_marks op.arguments ++ mark 0 signs.Colon ∷ (types_marks op.results ++ mark 0 signs.Semicolon ∷ []))

-- a param or a var, by its keyword
abbrev pub var_marks : Keyword → VarTree → List Mark
var_marks keyword var = word 0 keyword ∷ name 0 var.name ∷ mark 0 signs.Colon ∷ (type_marks 0 var.kind ++ mark 0 signs.Semicolon ∷ [])

abbrev pub vars_marks : List VarTree → List Mark
vars_marks vars = flat_map (var_marks keywords.Var) vars

abbrev pub entry_marks : EntryTree → List Mark
entry_marks entry = word 0 keywords.Entry ∷ name 0 entry.name ∷ word 0 keywords.Of ∷ name 0 entry.op
    ∷ (names_marks 0 entry.parameters ++ (vars_marks entry.vars
    ++ word 0 keywords.Begin ∷ (stmts_marks 0 entry.body ++ word 0 keywords.End ∷ mark 0 signs.Semicolon ∷ [])))

abbrev pub module_marks : ModuleTree → List Mark
module_marks m = word 0 keywords.Module ∷ name 0 m.name ∷ mark 0 signs.Semicolon
    ∷ (flat_map op_marks m.ops ++ (flat_map (var_marks keywords.Param) m.params ++ (vars_marks m.vars ++ (flat_map entry_marks m.entries
    ++ word 0 keywords.Begin ∷ (stmts_marks 0 m.body ++ word 0 keywords.End ∷ mark 0 signs.Dot ∷ [])))))

-- the tree is one of the grammar
abbrev pub HasTokens : ModuleTree → Type 0
HasTokens m = AllByRecursion (λ (entry : EntryTree). AreStmts entry.body) m.entries × AreStmts m.body

-- the kinds of the tree's tokens
abbrev pub kinds_of : ModuleTree → List Kind
kinds_of m = map (λ (t : Mark). t.kind) (module_marks m)

-- the grammar: the tree has these tokens
abbrev pub IsModule : ModuleTree → List Kind → Type 0
IsModule m tokens = HasTokens m × (tokens ≡ kinds_of m)
