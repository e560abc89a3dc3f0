-- What making an expression of its parts answers.
use Rattle.std.specs.Prelude.{◌≡◌, Result, Ok, Err}
use Rattle.lynx_tree.specs.Trees.{ExprTree, expr_tree}
use Rattle.lynx_tree.specs.declared.expression.Expr.{Expr}
use Rattle.lynx_descent.specs.declared.refusal.Refusal.{Refusal}
use Rattle.lynx_descent.specs.declared.refusal.Refusal.TheVariants as refusals

-- the expression of this tree, unless memory runs out
abbrev pub Makes : ExprTree → Result Expr Refusal → Type 0
Makes made (Ok e) = expr_tree e ≡ made
Makes made (Err e) = e ≡ refusals.NoMemory
