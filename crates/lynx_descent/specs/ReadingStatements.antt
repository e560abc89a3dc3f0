-- How statements are read, where so many more brackets and statements may be open. Statements inside are read by `body`.
use Rattle.std.specs.Prelude.{ℕ, zero, suc, Bool, true, false, if◌then◌else◌, List, [], ◌∷◌, Option, Some, None, map}
use Rattle.lynx_lexer.specs.declared.keyword.Keyword.{Keyword}
use Rattle.lynx_lexer.specs.declared.keyword.Keyword.TheVariants as keywords
use Rattle.lynx_lexer.specs.declared.sign.Sign.TheVariants as signs
use Rattle.lynx_lexer.specs.declared.token.Kind.{Kind}
use Rattle.lynx_descent.specs.declared.ahead.Ahead.{Ahead}
use Rattle.lynx_descent.specs.declared.ahead.Ahead.TheVariants as next
use Rattle.lynx_tree.specs.declared.statement.Stmt as statement
use Rattle.lynx_tree.specs.declared.statement.Handler.{Handler}
use Rattle.lynx_tree.specs.Trees as trees
use Rattle.lynx_tree.specs.Trees.{ExprTree, StmtTree, StmtTrees, HandlerTrees, stmt_tree}
use Rattle.lynx_descent.specs.Reading.{Parser, ◌>>=◌, ◌>>◌, ◌<$>◌, pure, refuse, too_deep, advance}
use Rattle.lynx_descent.specs.Reading.{asks, peek, ahead, sees_keyword, keyword, sign, name, many}
use Rattle.lynx_descent.specs.ReadingExpressions.{inside, expr, index, exprs_of}
use Rattle.lynx_descent.specs.ReadingLists.{names, values}

-- ---- trees of lists

abbrev pub stmts_of : List StmtTree → StmtTrees
stmts_of [] = trees.no_stmts
stmts_of (s ∷ ss) = trees.more_stmts s (stmts_of ss)

abbrev pub handlers_of : List (List ℕ × StmtTrees) → HandlerTrees
handlers_of [] = trees.no_handlers
handlers_of (h ∷ hs) = trees.more_handlers h.0 h.1 (handlers_of hs)

-- the tree of a body, and of a handler
abbrev pub body_of : List statement.Stmt → StmtTrees
body_of ss = stmts_of (map stmt_tree ss)

abbrev pub handler_of : Handler → List ℕ × StmtTrees
handler_of h = (h.name, body_of h.body.items)

abbrev pub assign_of : List ℕ → Option ExprTree → ExprTree → StmtTree
assign_of n None value = trees.Assign n value
assign_of n (Some i) value = trees.AssignMember n i value

abbrev pub choice_of : ExprTree → StmtTrees → Option StmtTrees → StmtTree
choice_of condition first None = trees.If condition first
choice_of condition first (Some second) = trees.IfElse condition first second

-- ---- statements, each behind its keyword

unfoldable pub assign : ℕ → Parser StmtTree
assign room = do
  n ← name
  i ← index (inside room)
  sign signs.Becomes
  value ← expr (inside room)
  pure (assign_of n i value)

-- two names with a keyword between
unfoldable pub pair : Keyword → Parser (List ℕ × List ℕ)
pair between = do
  first ← name
  keyword between
  second ← name
  pure (first, second)

unfoldable pub new : Parser StmtTree
new = do
  first ← name
  sign signs.Comma
  second ← name
  pure (trees.New first second)

unfoldable pub connect : ℕ → Parser StmtTree
connect room = do
  heads ← pair keywords.On
  given ← values room
  sign signs.Colon
  results ← names room
  pure (trees.Connect heads.0 heads.1 (exprs_of given) results)

unfoldable pub reply : ℕ → Parser StmtTree
reply room = do
  given ← values room
  pure (trees.Reply (exprs_of given))

unfoldable pub otherwise : Parser StmtTrees → Parser (Option StmtTrees)
otherwise body = do
  is_there ← asks (sees_keyword keywords.Else)
  if is_there then advance >> Some <$> body else pure None

unfoldable pub choice : ℕ → Parser StmtTrees → Parser StmtTree
choice room body = do
  condition ← expr (inside room)
  keyword keywords.Then
  first ← body
  other ← otherwise body
  keyword keywords.End
  pure (choice_of condition first other)

unfoldable pub repetition : ℕ → Parser StmtTrees → Parser StmtTree
repetition room body = do
  condition ← expr (inside room)
  keyword keywords.Do
  inner ← body
  keyword keywords.End
  pure (trees.While condition inner)

unfoldable pub accept : ℕ → Parser StmtTrees → Parser StmtTree
accept room body = do
  heads ← pair keywords.On
  arguments ← names room
  keyword keywords.Do
  inner ← body
  keyword keywords.End
  pure (trees.Accept heads.0 heads.1 arguments inner)

unfoldable pub handler : Parser StmtTrees → Parser (List ℕ × StmtTrees)
handler body = do
  advance
  n ← name
  keyword keywords.Do
  inner ← body
  pure (n, inner)

abbrev pub handlers : Parser StmtTrees → Parser (List (List ℕ × StmtTrees))
handlers body = many (sees_keyword keywords.When) (handler body) []

unfoldable pub attempt : Parser StmtTrees → Parser StmtTree
attempt body = do
  inner ← body
  others ← handlers body
  keyword keywords.End
  pure (trees.Try inner (handlers_of others))

abbrev pub stmt_by : ℕ → Parser StmtTrees → Ahead → Parser StmtTree
stmt_by room body next.Name = assign room
stmt_by room body (next.Keyword keywords.If) = advance >> choice room body
stmt_by room body (next.Keyword keywords.While) = advance >> repetition room body
stmt_by room body (next.Keyword keywords.Write) = advance >> trees.Write <$> expr (inside room)
stmt_by room body (next.Keyword keywords.Await) = advance >> trees.Await <$> expr (inside room)
stmt_by room body (next.Keyword keywords.Stop) = advance >> pure trees.Stop
stmt_by room body (next.Keyword keywords.Raise) = advance >> trees.Raise <$> name
stmt_by room body (next.Keyword keywords.New) = advance >> new
stmt_by room body (next.Keyword keywords.Destroy) = advance >> trees.Destroy <$> name
stmt_by room body (next.Keyword keywords.Bind) = advance >> (λ p. trees.Bind p.0 p.1) <$> pair keywords.To
stmt_by room body (next.Keyword keywords.Unbind) = advance >> (λ p. trees.Unbind p.0 p.1) <$> pair keywords.From
stmt_by room body (next.Keyword keywords.Connect) = advance >> connect room
stmt_by room body (next.Keyword keywords.Accept) = advance >> accept room body
stmt_by room body (next.Keyword keywords.Reply) = advance >> reply room
stmt_by room body (next.Keyword keywords.Try) = advance >> attempt body
stmt_by room body _ = refuse

-- a statement that is open
unfoldable pub within : ℕ → Parser StmtTrees → Parser StmtTree
within room body = peek >>= stmt_by room body

abbrev pub begins : Ahead → Bool
begins next.Name = true
begins (next.Keyword keywords.If) = true
begins (next.Keyword keywords.While) = true
begins (next.Keyword keywords.Write) = true
begins (next.Keyword keywords.Await) = true
begins (next.Keyword keywords.Stop) = true
begins (next.Keyword keywords.Raise) = true
begins (next.Keyword keywords.New) = true
begins (next.Keyword keywords.Destroy) = true
begins (next.Keyword keywords.Bind) = true
begins (next.Keyword keywords.Unbind) = true
begins (next.Keyword keywords.Connect) = true
begins (next.Keyword keywords.Accept) = true
begins (next.Keyword keywords.Reply) = true
begins (next.Keyword keywords.Try) = true
begins _ = false

unfoldable pub begins_stmt : List Kind → Bool
begins_stmt ts = begins (ahead ts)

-- a statement and its semicolon
abbrev pub ended : Parser StmtTree → Parser StmtTree
ended one = do
  s ← one
  sign signs.Semicolon
  pure s

abbrev pub stmts_by : Parser StmtTree → Parser StmtTrees
stmts_by one = stmts_of <$> many begins_stmt (ended one) []

-- a statement where so many more may be open, and a list of them
unfoldable pub stmt : ℕ → Parser StmtTree
stmt zero = too_deep
stmt (suc room) = within room (stmts_by (stmt room))

unfoldable pub stmts : ℕ → Parser StmtTrees
stmts room = stmts_by (stmt room)
