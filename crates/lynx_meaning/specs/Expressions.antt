-- What expressions give.
use Rattle.std.specs.Prelude.{ℕ, ℤ, List, [], ◌∷◌, Bool, true, false, not, int_le, int_lt}
use Rattle.std.specs.Prelude.{if◌then◌else◌, Result, Ok, Err, slice_index_or, slice_set}
use Rattle.lynx_code.specs.Generation.{Names, Slot, Global, Local}
use Rattle.lynx_lexer.specs.declared.sign.Sign.{Sign}
use Rattle.lynx_lexer.specs.declared.sign.Sign.TheVariants as signs
use Rattle.lynx_tree.specs.Trees.{ExprTree, ExprTrees, SumTail, TermTail}
use Rattle.lynx_tree.specs.Trees as trees
use Rattle.lynx_tree.specs.declared.expression.TermSign.{TermSign}
use Rattle.lynx_tree.specs.declared.expression.TermSign.TheVariants as terms
use Rattle.typing_rules.specs.declared.exception.Exception.{Exception}
use Rattle.lynx_meaning.specs.Courses.{Store}
use Rattle.lynx_meaning.specs.Values.{Value, Int, Truth, Text, Link, Given, int_of, truth_of, row_of, add}
use Rattle.lynx_meaning.specs.Values.{subtract, multiply, divide, reduce, negate, truth_eq, value_eq, member}

-- ---- variables

abbrev pub value_at : Slot → Store → Value
value_at (Global place) s = slice_index_or s.globals place (Link 0)
value_at (Local place) s = slice_index_or s.locals place (Link 0)

-- the variables after one gets a value
abbrev pub with_value_at : Slot → Value → Store → Store
with_value_at (Global place) v s = record s { globals = slice_set s.globals place v }
with_value_at (Local place) v s = record s { locals = slice_set s.locals place v }

abbrev pub looked_up : Names → Store → List ℕ → Value
looked_up names s name = value_at (names.slot name) s

abbrev pub assigned : Names → List ℕ → Value → Store → Store
assigned names name v s = with_value_at (names.slot name) v s

-- ---- operators

-- what two operands give, the first before the second
abbrev pub with_both : Given → Given → (Value → Value → Given) → Given
with_both (Ok a) (Ok b) operator = operator a b
with_both (Ok a) (Err exception) operator = Err exception
with_both (Err exception) b operator = Err exception

abbrev pub with_one : Given → (Value → Given) → Given
with_one (Ok a) operator = operator a
with_one (Err exception) operator = Err exception

abbrev pub related : Sign → Value → Value → Bool
related signs.Equal a b = value_eq a b
related signs.NotEqual a b = not (value_eq a b)
related signs.Less a b = int_lt (int_of a) (int_of b)
related signs.AtMost a b = int_le (int_of a) (int_of b)
related signs.Greater a b = int_lt (int_of b) (int_of a)
related _ a b = int_le (int_of b) (int_of a)

-- a sum has no other signs than `+` and `-`
abbrev pub summed : Sign → ℤ → ℤ → Given
summed signs.Plus a b = add a b
summed _ a b = subtract a b

abbrev pub multiplied : TermSign → ℤ → ℤ → Given
multiplied terms.Times a b = multiply a b
multiplied terms.Over a b = divide a b
multiplied terms.Mod a b = reduce a b

-- ---- expressions

abbrev mutual
  -- operands are evaluated from left to right
  pub value_of : Names → Store → ExprTree → Given
  value_of names s (trees.Or members) = until names s true members
  value_of names s (trees.And members) = until names s false members
  value_of names s (trees.Relation a sign b) = with_both (value_of names s a) (value_of names s b) (λ x y. Ok (Truth (related sign x y)))
  value_of names s (trees.Sum first rest) = sum_of names s (value_of names s first) rest
  value_of names s (trees.Term first rest) = term_of names s (value_of names s first) rest
  value_of names s (trees.Minus inner) = with_one (value_of names s inner) (λ x. negate (int_of x))
  value_of names s (trees.Not inner) = with_one (value_of names s inner) (λ x. Ok (Truth (not (truth_of x))))
  value_of names s (trees.Number n) = Ok (Int n)
  value_of names s (trees.Text inside) = Ok (Text inside)
  value_of names s trees.True = Ok (Truth true)
  value_of names s trees.False = Ok (Truth false)
  value_of names s (trees.Name name) = Ok (looked_up names s name)
  value_of names s (trees.Member name index) = with_one (value_of names s index) (λ i. member (row_of (looked_up names s name)) (int_of i))
  value_of names s (trees.Bracket inner) = value_of names s inner

  -- the first member of a chain that decides it, and no member behind it is evaluated; else the last one
  pub until : Names → Store → Bool → ExprTrees → Given
  until names s decides trees.no_exprs = Ok (Truth (not decides))
  until names s decides (trees.more_exprs e es) =
      with_one (value_of names s e) (λ x. if truth_eq decides (truth_of x) then Ok (Truth decides) else until names s decides es)

  -- a chain of `+` and `-` applies from left to right
  pub sum_of : Names → Store → Given → SumTail → Given
  sum_of names s so_far trees.no_sums = so_far
  sum_of names s so_far (trees.more_sums sign e rest) =
      sum_of names s (with_both so_far (value_of names s e) (λ x y. summed sign (int_of x) (int_of y))) rest

  pub term_of : Names → Store → Given → TermTail → Given
  term_of names s so_far trees.no_terms = so_far
  term_of names s so_far (trees.more_terms sign e rest) =
      term_of names s (with_both so_far (value_of names s e) (λ x y. multiplied sign (int_of x) (int_of y))) rest

-- a value, and those behind it
abbrev pub before : Given → Result (List Value) Exception → Result (List Value) Exception
before (Ok v) (Ok vs) = Ok (v ∷ vs)
before (Ok v) (Err exception) = Err exception
before (Err exception) vs = Err exception

-- values one after the other
abbrev pub values_of : Names → Store → ExprTrees → Result (List Value) Exception
values_of names s trees.no_exprs = Ok []
values_of names s (trees.more_exprs e es) = before (value_of names s e) (values_of names s es)
