-- The faults of expressions.
use Rattle.std.specs.Prelude.{ℕ, ◌+◌, List, [], ◌∷◌, ◌++◌, length, None, Some}
use Rattle.lynx_lexer.specs.declared.sign.Sign.{Sign}
use Rattle.lynx_lexer.specs.declared.sign.Sign.TheVariants as signs
use Rattle.lynx_tree.specs.declared.declaration.TypeName.{TypeName}
use Rattle.lynx_tree.specs.declared.declaration.TypeName.TheVariants as types
use Rattle.lynx_tree.specs.Trees.{ExprTree, ExprTrees, SumTail, TermTail}
use Rattle.lynx_tree.specs.Trees as trees
use Rattle.lynx_tree.specs.Grammar.{expr_marks}
use Rattle.typing_rules.specs.Types.{Held}
use Rattle.typing_rules.specs.Names.{Scope, type_of_variable}
use Rattle.typing_rules.specs.Rules.{Fault, is_variable, operand_is_int, operands_compare, operand_is_bool, indexed_is_row, index_is_int}

-- how many tokens an expression has
abbrev pub expr_size : ExprTree → ℕ
expr_size e = length (expr_marks 0 e)

-- the type that an expression shows
abbrev pub shown_type : Scope → ExprTree → Held
shown_type scope (trees.Or es) = Some types.Bool
shown_type scope (trees.And es) = Some types.Bool
shown_type scope (trees.Relation first sign second) = Some types.Bool
shown_type scope (trees.Sum first rest) = Some types.Int
shown_type scope (trees.Term first rest) = Some types.Int
shown_type scope (trees.Minus inner) = Some types.Int
shown_type scope (trees.Not inner) = Some types.Bool
shown_type scope (trees.Number n) = Some types.Int
shown_type scope (trees.Text inside) = Some types.Text
shown_type scope trees.True = Some types.Bool
shown_type scope trees.False = Some types.Bool
shown_type scope (trees.Name n) = type_of_variable (scope n)
shown_type scope (trees.Member n index) = Some types.Int
shown_type scope (trees.Bracket inner) = shown_type scope inner

-- an expression with a fault inside is held to have the type that its place needs
abbrev pub held : List Fault → Held → Held
held [] shown = shown
held (fault ∷ faults) shown = None

-- the faults inside an expression, and what a rule finds in it
abbrev pub judged : (ℕ → Held → List Fault) → ℕ → List Fault → Held → List Fault
judged rule at faults shown = faults ++ rule at (held faults shown)

-- what the relation demands: `=` and `<>` compare two of one type, the others two ints
abbrev pub relation_faults : Sign → ℕ → Held → ℕ → Held → List Fault
relation_faults signs.Equal at first second_at second = operands_compare second_at first second
relation_faults signs.NotEqual at first second_at second = operands_compare second_at first second
relation_faults _ at first second_at second = operand_is_int at first ++ operand_is_int second_at second

-- the faults inside two operands, and what the relation finds in them
abbrev pub related : Sign → ℕ → List Fault → Held → ℕ → List Fault → Held → List Fault
related sign at first_faults first second_at second_faults second =
    first_faults ++ second_faults ++ relation_faults sign at (held first_faults first) second_at (held second_faults second)

-- the faults of an expression that begins at this token
abbrev mutual
  pub expr_faults : Scope → ℕ → ExprTree → List Fault
  expr_faults scope at (trees.Or es) = bools_faults scope at es
  expr_faults scope at (trees.And es) = bools_faults scope at es
  expr_faults scope at (trees.Relation first sign second) =
      related sign at (expr_faults scope at first) (shown_type scope first)
      (at + expr_size first + 1) (expr_faults scope (at + expr_size first + 1) second) (shown_type scope second)
  expr_faults scope at (trees.Sum first rest) =
      judged operand_is_int at (expr_faults scope at first) (shown_type scope first) ++ sum_faults scope (at + expr_size first) rest
  expr_faults scope at (trees.Term first rest) =
      judged operand_is_int at (expr_faults scope at first) (shown_type scope first) ++ term_faults scope (at + expr_size first) rest
  expr_faults scope at (trees.Minus inner) = judged operand_is_int (at + 1) (expr_faults scope (at + 1) inner) (shown_type scope inner)
  expr_faults scope at (trees.Not inner) = judged operand_is_bool (at + 1) (expr_faults scope (at + 1) inner) (shown_type scope inner)
  expr_faults scope at (trees.Number n) = []
  expr_faults scope at (trees.Text inside) = []
  expr_faults scope at trees.True = []
  expr_faults scope at trees.False = []
  expr_faults scope at (trees.Name n) = is_variable at (scope n)
  expr_faults scope at (trees.Member n index) = is_variable at (scope n) ++ indexed_is_row at (type_of_variable (scope n))
      ++ judged index_is_int (at + 2) (expr_faults scope (at + 2) index) (shown_type scope index)
  expr_faults scope at (trees.Bracket inner) = expr_faults scope (at + 1) inner

  -- operands of `and` and `or`
  pub bools_faults : Scope → ℕ → ExprTrees → List Fault
  bools_faults scope at trees.no_exprs = []
  bools_faults scope at (trees.more_exprs e es) =
      judged operand_is_bool at (expr_faults scope at e) (shown_type scope e) ++ bools_faults scope (at + expr_size e + 1) es

  -- members behind their signs
  pub sum_faults : Scope → ℕ → SumTail → List Fault
  sum_faults scope at trees.no_sums = []
  sum_faults scope at (trees.more_sums sign e rest) =
      judged operand_is_int (at + 1) (expr_faults scope (at + 1) e) (shown_type scope e) ++ sum_faults scope (at + 1 + expr_size e) rest

  pub term_faults : Scope → ℕ → TermTail → List Fault
  term_faults scope at trees.no_terms = []
  term_faults scope at (trees.more_terms sign e rest) =
      judged operand_is_int (at + 1) (expr_faults scope (at + 1) e) (shown_type scope e) ++ term_faults scope (at + 1 + expr_size e) rest

-- the faults of an expression of which a rule demands something
abbrev pub value_faults : (ℕ → Held → List Fault) → Scope → ℕ → ExprTree → List Fault
value_faults rule scope at e = judged rule at (expr_faults scope at e) (shown_type scope e)

-- the faults of values with a token between, whose types a rule compares with these; no type is left where it is not known
abbrev pub values_faults : (TypeName → ℕ → Held → List Fault) → Scope → ℕ → ExprTrees → List TypeName → List Fault
values_faults rule scope at trees.no_exprs ts = []
values_faults rule scope at (trees.more_exprs e es) [] = expr_faults scope at e ++ values_faults rule scope (at + expr_size e + 1) es []
values_faults rule scope at (trees.more_exprs e es) (t ∷ ts) =
    value_faults (rule t) scope at e ++ values_faults rule scope (at + expr_size e + 1) es ts

abbrev pub number_of : ExprTrees → ℕ
number_of trees.no_exprs = 0
number_of (trees.more_exprs e es) = 1 + number_of es
