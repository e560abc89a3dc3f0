-- The next item of a list in brackets, and those behind it.
use Rattle.std.proofs.Common.{◌≡◌, ℕ, ◌+◌, ◌<◌, List, [], ◌∷◌, ◌++◌, length, drop, get_or, refl, sym, ap, ◌∙◌}
use Rattle.lynx_tree.specs.declared.declaration.TypeName.{TypeName}
use Rattle.lynx_tree.specs.declared.expression.Expr as expr
use Rattle.lynx_tree.specs.Trees.{ExprTree, ExprTrees, expr_tree, expr_list}
use Rattle.lynx_tree.specs.Trees as trees
use Rattle.typing_rules.specs.Expressions.{expr_size, values_faults}
use Rattle.typing_rules.specs.Names.{Scope}
use Rattle.typing_rules.specs.Rules.{wants}
use Rattle.typing_rules.specs.Statements.{names_faults}
use Rattle.typing_rules.proofs.Members.{at_place}
use Rattle.typing_statements.specs.Parts.{typed_value, typed_name}

next_one : (rule : ℕ) (s : Scope) (a : ℕ) (e : ExprTree) (es : ExprTrees) (ts : List TypeName)
    → values_faults (wants rule) s a (trees.more_exprs e es) ts ≡ typed_value rule s a e ts ++ values_faults (wants rule) s (a + expr_size e + 1) es (drop 1 ts)
next_one rule s a e es [] = refl
next_one rule s a e es (t ∷ ts) = refl

pub value-split : (rule : ℕ) (s : Scope) (i a : ℕ) (es : List expr.Expr) (e : expr.Expr) (ts : List TypeName) (c : ℕ) → i < length es → e ≡ get_or es i e → c ≡ a + expr_size (expr_tree e)
    → values_faults (wants rule) s a (expr_list (drop i es)) ts ≡ typed_value rule s a (expr_tree e) ts ++ values_faults (wants rule) s (c + 1) (expr_list (drop (i + 1) es)) (drop 1 ts)
value-split rule s i a es e ts c lt is at_c =
    ap (λ xs. values_faults (wants rule) s a (expr_list xs) ts) (at_place es i e lt is) ∙ next_one rule s a (expr_tree e) (expr_list (drop (i + 1) es)) ts
    ∙ (λ j. typed_value rule s a (expr_tree e) ts ++ values_faults (wants rule) s (sym at_c j + 1) (expr_list (drop (i + 1) es)) (drop 1 ts))

next_named : (rule : ℕ) (s : Scope) (a : ℕ) (n : List ℕ) (ns : List (List ℕ)) (ts : List TypeName)
    → names_faults (wants rule) s a (n ∷ ns) ts ≡ typed_name rule s a n ts ++ names_faults (wants rule) s (a + 2) ns (drop 1 ts)
next_named rule s a n ns [] = refl
next_named rule s a n ns (t ∷ ts) = refl

pub name-split : (rule : ℕ) (s : Scope) (i a : ℕ) (ns : List (List ℕ)) (n : List ℕ) (ts : List TypeName) (c : ℕ) → i < length ns → n ≡ get_or ns i n → c ≡ a + 2
    → names_faults (wants rule) s a (drop i ns) ts ≡ typed_name rule s a n ts ++ names_faults (wants rule) s c (drop (i + 1) ns) (drop 1 ts)
name-split rule s i a ns n ts c lt is at_c =
    ap (λ xs. names_faults (wants rule) s a xs ts) (at_place ns i n lt is) ∙ next_named rule s a n (drop (i + 1) ns) ts
    ∙ (λ j. typed_name rule s a n ts ++ names_faults (wants rule) s (sym at_c j) (drop (i + 1) ns) (drop 1 ts))
