use Rattle.std.proofs.Common.{ap, ◌∙◌, arith}
use Rattle.typing_rules.specs.Meanings.{scope_of, types_known}
use Rattle.typing_rules.specs.Names.{arguments_of, results_of}
use Rattle.typing_rules.specs.Progress.{first_with}
use Rattle.typing_rules.specs.Statements.{link_faults}
use Rattle.typing_statements.proofs.Actions.{accept_first, known_some}
use Rattle.typing_statements.proofs.action.accept.Goals as goal

pub returns-clause-first : goal.returns-clause-first
returns-clause-first c =
    let s = scope_of c.args.scope.now in
    let types = types_known c.arguments_of-arguments.result in
    c.skip-3.ensures.first
    ∙ accept_first s c.args.walk.now.at c.args.op.now c.args.name.now c.args.taken.now types (types_known c.results_of.result)
    (c.arguments_of-arguments.ensures ∙ ap arguments_of c.look-meaning.ensures) (c.results_of.ensures ∙ ap results_of c.look-meaning.ensures)
    c.skip.new.self.at c.skip-2.new.self.at c.link.new.walk.at (omega arith) (omega arith) (omega arith)
    c.known.result.now c.is_some.result c.is_number_of.result c.args.walk.now.first c.demand.new.self.first c.demand-2.new.self.first c.link.new.walk.first c.names.new.walk.first
    (c.is_some.ensures ∙ known_some c.arguments_of-arguments.result) c.is_number_of.ensures c.known.ensures
    (cc c.demand.ensures.first) (cc c.demand-2.ensures.first)
    (c.link.ensures.first ∙ ap (λ o. first_with o (link_faults s c.skip-2.new.self.at c.args.name.now)) c.skip-2.ensures.first)
    c.names.ensures.first
