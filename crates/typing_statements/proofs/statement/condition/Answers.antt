use Rattle.std.proofs.Common.{◌∙◌}
use Rattle.lynx_tree.specs.Trees.{expr_tree}
use Rattle.typing_rules.specs.Expressions.{value_faults}
use Rattle.typing_rules.specs.Meanings.{scope_of}
use Rattle.typing_rules.specs.Progress.{first_with}
use Rattle.typing_rules.specs.Rules.{condition_is_bool}
use Rattle.typing_statements.proofs.statement.condition.Goals as goal

pub returns-clause-first : goal.returns-clause-first
returns-clause-first c = c.operand.ensures.first ∙ (λ j. first_with (c.skip.ensures.first j) (value_faults condition_is_bool (scope_of c.args.scope.now) (c.skip.ensures.at j) (expr_tree c.args.value.now)))
