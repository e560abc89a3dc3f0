use Rattle.std.proofs.Common.{ap, ◌∙◌, arith}
use Rattle.typing_rules.specs.Meanings.{types_known}
use Rattle.typing_rules.specs.Progress.{first_with}
use Rattle.typing_rules.specs.Rules.{demand}
use Rattle.typing_statements.proofs.Actions.{known_some}
use Rattle.lynx_types.proofs.Entries.{heading_first}
use Rattle.lynx_types.proofs.entry.heading.Goals as goal

pub returns-clause-first : goal.returns-clause-first
returns-clause-first c =
    c.skip-3.ensures.first
    ∙ heading_first c.args.walk.now.at c.at.result c.at-2.result c.at-3.result c.args.new c.is_number_of.result c.is_some.result c.args.parameters (types_known c.args.arguments)
    c.args.walk.now.first c.demand.new.self.first c.demand-2.new.self.first c.demand-3.new.self.first
    (omega arith) (omega arith) (omega arith) c.is_number_of.ensures (c.is_some.ensures ∙ known_some c.args.arguments)
    (c.demand.ensures.first ∙ ap (λ o. first_with o (demand 1 c.at.result c.args.new)) c.skip.ensures.first)
    c.demand-2.ensures.first
    (c.demand-3.ensures.first ∙ ap (λ o. first_with o (demand 6 c.at-3.result c.is_some.result)) c.skip-2.ensures.first)
