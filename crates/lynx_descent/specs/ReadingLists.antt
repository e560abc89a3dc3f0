-- How lists in brackets are read, where so many more brackets may be open.
use Rattle.std.specs.Prelude.{ℕ, if◌then◌else◌, List, [], ◌∷◌}
use Rattle.lynx_lexer.specs.declared.keyword.Keyword.TheVariants as keywords
use Rattle.lynx_lexer.specs.declared.sign.Sign.TheVariants as signs
use Rattle.lynx_tree.specs.declared.declaration.TypeName.{TypeName}
use Rattle.lynx_tree.specs.declared.declaration.TypeName.TheVariants as types
use Rattle.lynx_descent.specs.declared.ahead.Ahead.{Ahead}
use Rattle.lynx_descent.specs.declared.ahead.Ahead.TheVariants as next
use Rattle.lynx_tree.specs.Trees.{ExprTree}
use Rattle.lynx_descent.specs.Reading.{Parser, ◌>>=◌, ◌>>◌, ◌<$>◌, pure, refuse, advance, asks}
use Rattle.lynx_descent.specs.Reading.{peek, sees_sign, sign, name, number, bracket, many}
use Rattle.lynx_descent.specs.ReadingExpressions.{inside, expr}

-- what follows each comma
abbrev pub commas : {A : Type 0} → Parser A → List A → Parser (List A)
commas item found = many (sees_sign signs.Comma) (advance >> item) found

-- items with commas between, up to `)`
abbrev pub listed : {A : Type 0} → Parser A → Parser (List A)
listed item = do
  is_empty ← asks (sees_sign signs.Close)
  if is_empty then pure [] else (do first ← item; commas item (first ∷ []))

unfoldable pub names : ℕ → Parser (List (List ℕ))
names room = do
  within ← bracket room
  all ← listed name
  sign signs.Close
  pure all

unfoldable pub values : ℕ → Parser (List ExprTree)
values room = do
  within ← bracket room
  all ← listed (expr (inside within))
  sign signs.Close
  pure all

abbrev pub type_by : Ahead → Parser TypeName
type_by (next.Keyword keywords.Int) = advance >> pure types.Int
type_by (next.Keyword keywords.Bool) = advance >> pure types.Bool
type_by (next.Keyword keywords.Text) = advance >> pure types.Text
type_by (next.Keyword keywords.Link) = advance >> pure types.Link
type_by (next.Keyword keywords.Row) = advance >> types.Row <$> number
type_by _ = refuse

unfoldable pub type_name : Parser TypeName
type_name = peek >>= type_by

unfoldable pub type_names : ℕ → Parser (List TypeName)
type_names room = do
  within ← bracket room
  all ← listed type_name
  sign signs.Close
  pure all
