use Rattle.std.proofs.Common.{◌≡◌, ℕ, ◌∷◌, [], ◌++◌, drop}
use Rattle.lynx_tree.specs.Grammar.{Mark, behind_marks, sum_marks, term_marks}
use Rattle.lynx_tree.specs.Trees.{expr_list, sum_list, term_list}
use Rattle.lynx_tree.specs.Printing.{text_of, token_text}
use Rattle.lynx_printer.proofs.print_expression.+print_expression.Given as goal

-- what is printed and what is left to print are the whole

abbrev pub invariant-push_chain-loop-member : goal.invariant-push_chain-loop-member
invariant-push_chain-loop-member l =
    (d : ℕ) (t : Mark) → token_text t.kind ≡ l.between ++ 32 ∷ [] → l.out.items ++ text_of (behind_marks d t (expr_list (drop l.member-index l.rest))) ≡ l.initial.out.items ++ text_of (behind_marks d t (expr_list l.rest))

abbrev pub invariant-push_sums-loop-sign : goal.invariant-push_sums-loop-sign
invariant-push_sums-loop-sign l = (d : ℕ) → l.out.items ++ text_of (sum_marks d (sum_list (drop l.sign-index l.members))) ≡ l.initial.out.items ++ text_of (sum_marks d (sum_list l.members))

abbrev pub invariant-push_terms-loop-sign : goal.invariant-push_terms-loop-sign
invariant-push_terms-loop-sign l = (d : ℕ) → l.out.items ++ text_of (term_marks d (term_list (drop l.sign-index l.members))) ≡ l.initial.out.items ++ text_of (term_marks d (term_list l.members))
