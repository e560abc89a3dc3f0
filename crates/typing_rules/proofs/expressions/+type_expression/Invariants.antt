use Rattle.std.proofs.Common.{◌≡◌, ◌+◌, ◌&&◌, drop}
use Rattle.lynx_tree.specs.Trees.{expr_list, sum_list, term_list}
use Rattle.typing_rules.specs.Expressions.{bools_faults, sum_faults, term_faults}
use Rattle.typing_rules.specs.Meanings.{scope_of}
use Rattle.typing_rules.specs.Progress.{first_with, is_clean}
use Rattle.typing_rules.proofs.Members.{bools_left, sums_left, terms_left}
use Rattle.typing_rules.proofs.expressions.+type_expression.Given as goal

-- what was seen and what is left are the whole

abbrev pub invariant-bools-loop-member : goal.invariant-bools-loop-member
invariant-bools-loop-member l = record {
  at : l.walk.at + bools_left (drop l.member-index l.rest) ≡ l.initial.walk.at + bools_left l.rest;
  first : first_with l.walk.first (bools_faults (scope_of l.scope) (l.walk.at + 1) (expr_list (drop l.member-index l.rest))) ≡ first_with l.initial.walk.first (bools_faults (scope_of l.scope) (l.initial.walk.at + 1) (expr_list l.rest));
  clean : (l.clean && is_clean (bools_faults (scope_of l.scope) (l.walk.at + 1) (expr_list (drop l.member-index l.rest)))) ≡ (l.initial.clean && is_clean (bools_faults (scope_of l.scope) (l.initial.walk.at + 1) (expr_list l.rest)));
}

abbrev pub invariant-sums-loop-member : goal.invariant-sums-loop-member
invariant-sums-loop-member l = record {
  at : l.walk.at + sums_left (drop l.member-index l.members) ≡ l.initial.walk.at + sums_left l.members;
  first : first_with l.walk.first (sum_faults (scope_of l.scope) l.walk.at (sum_list (drop l.member-index l.members))) ≡ first_with l.initial.walk.first (sum_faults (scope_of l.scope) l.initial.walk.at (sum_list l.members));
  clean : (l.clean && is_clean (sum_faults (scope_of l.scope) l.walk.at (sum_list (drop l.member-index l.members)))) ≡ (l.initial.clean && is_clean (sum_faults (scope_of l.scope) l.initial.walk.at (sum_list l.members)));
}

abbrev pub invariant-terms-loop-member : goal.invariant-terms-loop-member
invariant-terms-loop-member l = record {
  at : l.walk.at + terms_left (drop l.member-index l.members) ≡ l.initial.walk.at + terms_left l.members;
  first : first_with l.walk.first (term_faults (scope_of l.scope) l.walk.at (term_list (drop l.member-index l.members))) ≡ first_with l.initial.walk.first (term_faults (scope_of l.scope) l.initial.walk.at (term_list l.members));
  clean : (l.clean && is_clean (term_faults (scope_of l.scope) l.walk.at (term_list (drop l.member-index l.members)))) ≡ (l.initial.clean && is_clean (term_faults (scope_of l.scope) l.initial.walk.at (term_list l.members)));
}
