use Rattle.std.proofs.Common.{◌≡◌, ◌+◌, drop}
use Rattle.lynx_tree.specs.Trees.{expr_list}
use Rattle.typing_rules.specs.Expressions.{values_faults}
use Rattle.typing_rules.specs.Meanings.{scope_of}
use Rattle.typing_rules.specs.Progress.{first_with}
use Rattle.typing_rules.specs.Rules.{wants}
use Rattle.typing_rules.proofs.Members.{bools_left}
use Rattle.typing_statements.proofs.list.values.Given as goal

-- what was seen and what is left are the whole
abbrev pub invariant-loop-item : goal.invariant-loop-item
invariant-loop-item l = record {
  at : l.walk.at + bools_left (drop l.item-index l.values) ≡ l.initial.walk.at + bools_left l.values;
  first : first_with l.walk.first (values_faults (wants l.rule) (scope_of l.scope) l.walk.at (expr_list (drop l.item-index l.values)) l.left) ≡ first_with l.initial.walk.first (values_faults (wants l.rule) (scope_of l.scope) l.initial.walk.at (expr_list l.values) l.initial.left);
}
