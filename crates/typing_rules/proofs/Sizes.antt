-- How many tokens the parts of a module have: their nesting does not matter.
use Rattle.std.proofs.Common.{◌≡◌, ℕ, suc, ◌+◌, [], ◌∷◌, ◌++◌, length, refl, ◌∙◌, arith, length-append}
use Rattle.lynx_tree.specs.Trees.{ExprTree, ExprTrees, SumTail, TermTail}
use Rattle.lynx_tree.specs.Trees as trees
use Rattle.lynx_tree.specs.Grammar.{Mark, expr_marks, chain_marks, behind_marks, sum_marks, term_marks}

mutual
  pub expr-size : (d : ℕ) (e : ExprTree) → length (expr_marks d e) ≡ length (expr_marks 0 e)
  expr-size d (trees.Or es) = chain-size d _ _ es
  expr-size d (trees.And es) = chain-size d _ _ es
  expr-size d (trees.Relation first sign second) = omega (arith, length-append {A = Mark}, expr-size d first, expr-size d second)
  expr-size d (trees.Sum first rest) = omega (arith, length-append {A = Mark}, expr-size d first, sum-size d rest)
  expr-size d (trees.Term first rest) = omega (arith, length-append {A = Mark}, expr-size d first, term-size d rest)
  expr-size d (trees.Minus inner) = omega (arith, expr-size d inner)
  expr-size d (trees.Not inner) = omega (arith, expr-size d inner)
  expr-size d (trees.Number n) = refl
  expr-size d (trees.Text inside) = refl
  expr-size d trees.True = refl
  expr-size d trees.False = refl
  expr-size d (trees.Name n) = refl
  expr-size d (trees.Member n index) = omega (arith, length-append {A = Mark}, expr-size (suc d) index, expr-size (suc 0) index)
  expr-size d (trees.Bracket inner) = omega (arith, length-append {A = Mark}, expr-size (suc d) inner, expr-size (suc 0) inner)

  pub chain-size : (d : ℕ) (a b : Mark) (es : ExprTrees) → length (chain_marks d a es) ≡ length (chain_marks 0 b es)
  chain-size d a b trees.no_exprs = refl
  chain-size d a b (trees.more_exprs e es) = omega (arith, length-append {A = Mark}, expr-size d e, behind-size d a b es)

  pub behind-size : (d : ℕ) (a b : Mark) (es : ExprTrees) → length (behind_marks d a es) ≡ length (behind_marks 0 b es)
  behind-size d a b trees.no_exprs = refl
  behind-size d a b (trees.more_exprs e es) = omega (arith, length-append {A = Mark}, expr-size d e, behind-size d a b es)

  pub sum-size : (d : ℕ) (es : SumTail) → length (sum_marks d es) ≡ length (sum_marks 0 es)
  sum-size d trees.no_sums = refl
  sum-size d (trees.more_sums sign e es) = omega (arith, length-append {A = Mark}, expr-size d e, sum-size d es)

  pub term-size : (d : ℕ) (es : TermTail) → length (term_marks d es) ≡ length (term_marks 0 es)
  term-size d trees.no_terms = refl
  term-size d (trees.more_terms sign e es) = omega (arith, length-append {A = Mark}, expr-size d e, term-size d es)
