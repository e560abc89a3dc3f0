use Rattle.std.proofs.Common.{◌≡◌, ◌+◌, ◌*◌, drop}
use Rattle.typing_rules.specs.Meanings.{scope_of}
use Rattle.typing_rules.specs.Progress.{first_with}
use Rattle.typing_rules.specs.Rules.{wants}
use Rattle.typing_rules.specs.Statements.{names_faults}
use Rattle.typing_statements.proofs.list.names.Given as goal

-- what was seen and what is left are the whole
abbrev pub invariant-loop-item : goal.invariant-loop-item
invariant-loop-item l = record {
  at : l.walk.at ≡ l.initial.walk.at + 2 * l.item-index;
  first : first_with l.walk.first (names_faults (wants l.rule) (scope_of l.scope) l.walk.at (drop l.item-index l.names) l.left) ≡ first_with l.initial.walk.first (names_faults (wants l.rule) (scope_of l.scope) l.initial.walk.at l.names l.initial.left);
}
