-- How expressions are read. What stands behind an opening bracket is read by `inner`.
use Rattle.std.specs.Prelude.{ℕ, zero, suc, if◌then◌else◌, List, [], ◌∷◌, Option, Some, None, Ok, is_some}
use Rattle.lynx_lexer.specs.declared.keyword.Keyword.TheVariants as keywords
use Rattle.lynx_lexer.specs.declared.sign.Sign.{Sign}
use Rattle.lynx_lexer.specs.declared.sign.Sign.TheVariants as signs
use Rattle.lynx_lexer.specs.declared.token.Kind.{Kind}
use Rattle.lynx_tree.specs.declared.expression.TermSign.{TermSign}
use Rattle.lynx_tree.specs.declared.expression.TermSign.TheVariants as term_signs
use Rattle.lynx_descent.specs.declared.ahead.Ahead.{Ahead}
use Rattle.lynx_descent.specs.declared.ahead.Ahead.TheVariants as next
use Rattle.lynx_tree.specs.Trees as trees
use Rattle.lynx_tree.specs.Trees.{ExprTree, ExprTrees, SumTail, TermTail}
use Rattle.lynx_descent.specs.Reading.{Parser, ◌>>=◌, ◌>>◌, ◌<$>◌, pure, refuse, advance, asks, peek, ahead}
use Rattle.lynx_descent.specs.Reading.{sees_keyword, sees_sign, sign, name, number, text, too_deep, many}

-- ---- trees of lists

abbrev pub exprs_of : List ExprTree → ExprTrees
exprs_of [] = trees.no_exprs
exprs_of (e ∷ es) = trees.more_exprs e (exprs_of es)

abbrev pub sums_of : List (Sign × ExprTree) → SumTail
sums_of [] = trees.no_sums
sums_of (m ∷ ms) = trees.more_sums m.0 m.1 (sums_of ms)

abbrev pub terms_of : List (TermSign × ExprTree) → TermTail
terms_of [] = trees.no_terms
terms_of (m ∷ ms) = trees.more_terms m.0 m.1 (terms_of ms)

abbrev pub sum_of : ExprTree → List (Sign × ExprTree) → ExprTree
sum_of first [] = first
sum_of first (m ∷ ms) = trees.Sum first (sums_of (m ∷ ms))

abbrev pub term_of : ExprTree → List (TermSign × ExprTree) → ExprTree
term_of first [] = first
term_of first (m ∷ ms) = trees.Term first (terms_of (m ∷ ms))

abbrev pub named_of : List ℕ → Option ExprTree → ExprTree
named_of n None = trees.Name n
named_of n (Some index) = trees.Member n index

-- ---- operators

abbrev pub sign_of_relation : Ahead → Option Sign
sign_of_relation (next.Sign signs.Equal) = Some signs.Equal
sign_of_relation (next.Sign signs.NotEqual) = Some signs.NotEqual
sign_of_relation (next.Sign signs.Less) = Some signs.Less
sign_of_relation (next.Sign signs.AtMost) = Some signs.AtMost
sign_of_relation (next.Sign signs.Greater) = Some signs.Greater
sign_of_relation (next.Sign signs.AtLeast) = Some signs.AtLeast
sign_of_relation _ = None

abbrev pub sign_of_sum : Ahead → Option Sign
sign_of_sum (next.Sign signs.Plus) = Some signs.Plus
sign_of_sum (next.Sign signs.Minus) = Some signs.Minus
sign_of_sum _ = None

abbrev pub sign_of_term : Ahead → Option TermSign
sign_of_term (next.Sign signs.Times) = Some term_signs.Times
sign_of_term (next.Sign signs.Over) = Some term_signs.Over
sign_of_term (next.Keyword keywords.Mod) = Some term_signs.Mod
sign_of_term _ = None

unfoldable pub relation_sign : List Kind → Option Sign
relation_sign ts = sign_of_relation (ahead ts)

unfoldable pub sum_sign : List Kind → Option Sign
sum_sign ts = sign_of_sum (ahead ts)

unfoldable pub term_sign : List Kind → Option TermSign
term_sign ts = sign_of_term (ahead ts)

-- an operator, if one comes next, and what it joins
abbrev pub behind_sign : {S A : Type 0} → Option S → Parser A → Parser (S × A)
behind_sign None p = refuse
behind_sign (Some s) p = advance >> (λ x. (s, x)) <$> p

-- ---- the words of the grammar

unfoldable pub index : Parser ExprTree → Parser (Option ExprTree)
index inner = do
  is_member ← asks (sees_sign signs.OpenRow)
  if is_member then (do e ← inner; sign signs.CloseRow; pure (Some e)) else pure None

unfoldable pub named : Parser ExprTree → Parser ExprTree
named inner = do
  n ← name
  i ← index inner
  pure (named_of n i)

abbrev pub prim_by : Parser ExprTree → Ahead → Parser ExprTree
prim_by inner (next.Keyword keywords.True) = advance >> pure trees.True
prim_by inner (next.Keyword keywords.False) = advance >> pure trees.False
prim_by inner (next.Sign signs.Open) = do
  e ← inner
  sign signs.Close
  pure (trees.Bracket e)
prim_by inner next.Name = named inner
prim_by inner next.Number = trees.Number <$> number
prim_by inner next.Text = trees.Text <$> text
prim_by inner _ = refuse

unfoldable pub prim : Parser ExprTree → Parser ExprTree
prim inner = peek >>= prim_by inner

abbrev pub unary_by : Parser ExprTree → Ahead → Parser ExprTree
unary_by inner (next.Sign signs.Minus) = advance >> trees.Minus <$> prim inner
unary_by inner (next.Keyword keywords.Not) = advance >> trees.Not <$> prim inner
unary_by inner _ = prim inner

unfoldable pub unary : Parser ExprTree → Parser ExprTree
unary inner = peek >>= unary_by inner

abbrev pub factors : Parser ExprTree → Parser (List (TermSign × ExprTree))
factors inner = many (λ ts. is_some (term_sign ts)) (λ ts. behind_sign (term_sign ts) (unary inner) ts) []

unfoldable pub term : Parser ExprTree → Parser ExprTree
term inner = do
  first ← unary inner
  rest ← factors inner
  pure (term_of first rest)

abbrev pub summands : Parser ExprTree → Parser (List (Sign × ExprTree))
summands inner = many (λ ts. is_some (sum_sign ts)) (λ ts. behind_sign (sum_sign ts) (term inner) ts) []

unfoldable pub sum : Parser ExprTree → Parser ExprTree
sum inner = do
  first ← term inner
  rest ← summands inner
  pure (sum_of first rest)

abbrev pub rel_by : Parser ExprTree → ExprTree → Option Sign → Parser ExprTree
rel_by inner first None = pure first
rel_by inner first (Some s) = advance >> trees.Relation first s <$> sum inner

unfoldable pub rel : Parser ExprTree → Parser ExprTree
rel inner = do
  first ← sum inner
  s ← (λ ts. Ok (relation_sign ts, ts))
  rel_by inner first s

-- what follows each further `and`
abbrev pub conjuncts : Parser ExprTree → List ExprTree → Parser (List ExprTree)
conjuncts inner found = many (sees_keyword keywords.And) (advance >> rel inner) found

unfoldable pub conj : Parser ExprTree → Parser ExprTree
conj inner = do
  first ← rel inner
  is_chain ← asks (sees_keyword keywords.And)
  if is_chain then (do advance; second ← rel inner; all ← conjuncts inner (first ∷ second ∷ []); pure (trees.And (exprs_of all)))
      else pure first

-- what follows each further `or`
abbrev pub disjuncts : Parser ExprTree → List ExprTree → Parser (List ExprTree)
disjuncts inner found = many (sees_keyword keywords.Or) (advance >> conj inner) found

unfoldable pub expr : Parser ExprTree → Parser ExprTree
expr inner = do
  first ← conj inner
  is_chain ← asks (sees_keyword keywords.Or)
  if is_chain then (do advance; second ← conj inner; all ← disjuncts inner (first ∷ second ∷ []); pure (trees.Or (exprs_of all)))
      else pure first

-- a token that opens a bracket, and an expression, where so many more may be open
unfoldable pub inside : ℕ → Parser ExprTree
inside zero = too_deep
inside (suc room) = advance >> expr (inside room)
