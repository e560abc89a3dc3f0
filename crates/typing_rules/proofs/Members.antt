-- The members of a chain: the next one and those behind it.
use Rattle.std.proofs.Common.{◌≡◌, ℕ, ◌+◌, ◌<◌, ◌≤◌, List, [], ◌∷◌, ◌++◌, length, drop, get_or, sym, ap, ◌∙◌, arith, length-append}
use Rattle.std.proofs.lemmas.List.{drop_more, drop_all}
use Rattle.lynx_lexer.specs.declared.sign.Sign.{Sign}
use Rattle.lynx_lexer.specs.declared.keyword.Keyword.TheVariants as keywords
use Rattle.lynx_tree.specs.declared.expression.Expr as expr
use Rattle.lynx_tree.specs.declared.expression.TermSign.{TermSign}
use Rattle.lynx_tree.specs.declared.declaration.TypeName.TheVariants as types
use Rattle.lynx_tree.specs.Grammar.{Mark, word, behind_marks, sum_marks, term_marks}
use Rattle.lynx_tree.specs.Trees.{expr_tree, expr_list, sum_list, term_list}
use Rattle.lynx_tree.specs.Trees as trees
use Rattle.typing_rules.specs.Names.{Scope}
use Rattle.typing_rules.specs.Rules.{wants}
use Rattle.typing_rules.specs.Expressions.{expr_size, value_faults, bools_faults, sum_faults, term_faults}

-- the members from a place on
pub at_place : {X : Type 0} (xs : List X) (i : ℕ) (x : X) → i < length xs → x ≡ get_or xs i x → drop i xs ≡ x ∷ drop (i + 1) xs
at_place xs i x lt is = drop_more xs i x lt ∙ (λ j. sym is j ∷ drop (i + 1) xs)

-- how many tokens the members have, each with what stands before it
abbrev pub bools_left : List expr.Expr → ℕ
bools_left es = length (behind_marks 0 (word 0 keywords.Or) (expr_list es))

abbrev pub sums_left : List (Sign × expr.Expr) → ℕ
sums_left ms = length (sum_marks 0 (sum_list ms))

abbrev pub terms_left : List (TermSign × expr.Expr) → ℕ
terms_left ms = length (term_marks 0 (term_list ms))

module _ (s : Scope) (i a : ℕ) where
  pub next_bool : (es : List expr.Expr) (e : expr.Expr) → i < length es → e ≡ get_or es i e → bools_left (drop i es) ≡ 1 + expr_size (expr_tree e) + bools_left (drop (i + 1) es)
  next_bool es e lt is = ap bools_left (at_place es i e lt is) ∙ omega (arith, length-append {A = Mark})

  pub bool-split : (es : List expr.Expr) (e : expr.Expr) (b c : ℕ) → i < length es → e ≡ get_or es i e → b ≡ a + 1 → c ≡ b + expr_size (expr_tree e)
      → bools_faults s (a + 1) (expr_list (drop i es)) ≡ value_faults (wants 11 types.Bool) s b (expr_tree e) ++ bools_faults s (c + 1) (expr_list (drop (i + 1) es))
  bool-split es e b c lt is at_b at_c =
      ap (λ xs. bools_faults s (a + 1) (expr_list xs)) (at_place es i e lt is)
      ∙ (λ j. value_faults (wants 11 types.Bool) s (sym at_b j) (expr_tree e) ++ bools_faults s (sym (at_c ∙ ap (λ n. n + expr_size (expr_tree e)) at_b) j + 1) (expr_list (drop (i + 1) es)))

  pub next_sum : (ms : List (Sign × expr.Expr)) (m : Sign × expr.Expr) → i < length ms → m ≡ get_or ms i m → sums_left (drop i ms) ≡ 1 + expr_size (expr_tree m.1) + sums_left (drop (i + 1) ms)
  next_sum ms m lt is = ap sums_left (at_place ms i m lt is) ∙ omega (arith, length-append {A = Mark})

  pub sum-split : (ms : List (Sign × expr.Expr)) (m : Sign × expr.Expr) (b c : ℕ) → i < length ms → m ≡ get_or ms i m → b ≡ a + 1 → c ≡ b + expr_size (expr_tree m.1)
      → sum_faults s a (sum_list (drop i ms)) ≡ value_faults (wants 9 types.Int) s b (expr_tree m.1) ++ sum_faults s c (sum_list (drop (i + 1) ms))
  sum-split ms m b c lt is at_b at_c =
      ap (λ xs. sum_faults s a (sum_list xs)) (at_place ms i m lt is)
      ∙ (λ j. value_faults (wants 9 types.Int) s (sym at_b j) (expr_tree m.1) ++ sum_faults s (sym (at_c ∙ ap (λ n. n + expr_size (expr_tree m.1)) at_b) j) (sum_list (drop (i + 1) ms)))

  pub next_term : (ms : List (TermSign × expr.Expr)) (m : TermSign × expr.Expr) → i < length ms → m ≡ get_or ms i m → terms_left (drop i ms) ≡ 1 + expr_size (expr_tree m.1) + terms_left (drop (i + 1) ms)
  next_term ms m lt is = ap terms_left (at_place ms i m lt is) ∙ omega (arith, length-append {A = Mark})

  pub term-split : (ms : List (TermSign × expr.Expr)) (m : TermSign × expr.Expr) (b c : ℕ) → i < length ms → m ≡ get_or ms i m → b ≡ a + 1 → c ≡ b + expr_size (expr_tree m.1)
      → term_faults s a (term_list (drop i ms)) ≡ value_faults (wants 9 types.Int) s b (expr_tree m.1) ++ term_faults s c (term_list (drop (i + 1) ms))
  term-split ms m b c lt is at_b at_c =
      ap (λ xs. term_faults s a (term_list xs)) (at_place ms i m lt is)
      ∙ (λ j. value_faults (wants 9 types.Int) s (sym at_b j) (expr_tree m.1) ++ term_faults s (sym (at_c ∙ ap (λ n. n + expr_size (expr_tree m.1)) at_b) j) (term_list (drop (i + 1) ms)))

pub none_left : {X : Type 0} {A : Type 0} (f : List X → A) (xs : List X) (i : ℕ) → length xs ≤ i → f (drop i xs) ≡ f []
none_left f xs i le = ap f (drop_all i xs le)

-- a chain is its first member and those behind it
module _ (members rest : List expr.Expr) (first : expr.Expr) (are : members ≡ first ∷ rest) where
  pub bools-size : expr_size (trees.Or (expr_list members)) ≡ expr_size (expr_tree first) + bools_left rest
  bools-size = ap (λ es. expr_size (trees.Or (expr_list es))) are ∙ omega (arith, length-append {A = Mark})

  pub bools-parts : (s : Scope) (a : ℕ) → bools_faults s a (expr_list members) ≡ value_faults (wants 11 types.Bool) s a (expr_tree first) ++ bools_faults s (a + expr_size (expr_tree first) + 1) (expr_list rest)
  bools-parts s a = ap (λ es. bools_faults s a (expr_list es)) are
