-- How declarations and modules are read, where so many brackets and statements may be open.
use Rattle.std.specs.Prelude.{ℕ, List, [], ◌∷◌, length, Ok, Err}
use Rattle.lynx_lexer.specs.declared.keyword.Keyword.{Keyword}
use Rattle.lynx_lexer.specs.declared.keyword.Keyword.TheVariants as keywords
use Rattle.lynx_lexer.specs.declared.sign.Sign.TheVariants as signs
use Rattle.lynx_lexer.specs.declared.token.Kind.{Kind}
use Rattle.lynx_descent.specs.declared.refusal.Refusal.TheVariants as refusals
use Rattle.lynx_tree.specs.Trees.{OpTree, VarTree, EntryTree, ModuleTree, StmtTrees}
use Rattle.lynx_descent.specs.Reading.{Parser, Parsed, ◌>>=◌, ◌>>◌, pure, advance, sees_keyword, keyword, sign, name, many}
use Rattle.lynx_descent.specs.ReadingLists.{names, type_name, type_names}
use Rattle.lynx_descent.specs.ReadingStatements.{stmts}

unfoldable pub op : ℕ → Parser OpTree
op room = do
  advance
  n ← name
  given ← type_names room
  sign signs.Colon
  answered ← type_names room
  sign signs.Semicolon
  pure (record { name = n; arguments = given; results = answered })

abbrev pub ops : ℕ → Parser (List OpTree)
ops room = many (sees_keyword keywords.Op) (op room) []

-- a param or a var
unfoldable pub var : Parser VarTree
var = do
  advance
  n ← name
  sign signs.Colon
  t ← type_name
  sign signs.Semicolon
  pure (record { name = n; kind = t })

abbrev pub vars : Keyword → Parser (List VarTree)
vars w = many (sees_keyword w) var []

-- statements from `begin` to `end`
unfoldable pub body : ℕ → Parser StmtTrees
body room = do
  keyword keywords.Begin
  inner ← stmts room
  keyword keywords.End
  pure inner

unfoldable pub entry : ℕ → Parser EntryTree
entry room = do
  advance
  n ← name
  keyword keywords.Of
  o ← name
  given ← names room
  locals ← vars keywords.Var
  inner ← body room
  sign signs.Semicolon
  pure (record { name = n; op = o; parameters = given; vars = locals; body = inner })

abbrev pub entries : ℕ → Parser (List EntryTree)
entries room = many (sees_keyword keywords.Entry) (entry room) []

unfoldable pub one_module : ℕ → Parser ModuleTree
one_module room = do
  keyword keywords.Module
  n ← name
  sign signs.Semicolon
  declared ← ops room
  given ← vars keywords.Param
  globals ← vars keywords.Var
  served ← entries room
  inner ← body room
  sign signs.Dot
  pure (record { name = n; ops = declared; params = given; vars = globals; entries = served; body = inner })

abbrev pub at_end : ModuleTree → List Kind → Parsed ModuleTree
at_end m [] = Ok (m, [])
at_end m (k ∷ ts) = Err (refusals.At (length (k ∷ ts)))

-- a module, and nothing behind it
unfoldable pub whole : ℕ → Parser ModuleTree
whole room = one_module room >>= at_end
