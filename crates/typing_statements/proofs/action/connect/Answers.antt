use Rattle.std.proofs.Common.{◌+◌, ap, ◌∙◌, arith}
use Rattle.lynx_tree.specs.Trees.{expr_list}
use Rattle.typing_rules.specs.Meanings.{scope_of, types_known}
use Rattle.typing_rules.specs.Names.{arguments_of, results_of}
use Rattle.typing_rules.specs.Progress.{first_with}
use Rattle.typing_rules.specs.Rules.{wants, is_number_of}
use Rattle.typing_rules.specs.Statements.{link_faults, names_faults}
use Rattle.typing_statements.proofs.Actions.{connect_first, known_some, number_list}
use Rattle.typing_statements.proofs.action.connect.Goals as goal

pub returns-clause-first : goal.returns-clause-first
returns-clause-first c =
    let s = scope_of c.args.scope.now in
    let types = types_known c.arguments_of-arguments.result in
    let back = types_known c.results_of-results.result in
    connect_first s c.args.walk.now.at c.args.op.now c.args.name.now c.args.taken.now types back
    (c.arguments_of-arguments.ensures ∙ ap arguments_of c.look-meaning.ensures) (c.results_of-results.ensures ∙ ap results_of c.look-meaning.ensures)
    c.skip.new.self.at c.skip-2.new.self.at c.link.new.walk.at (omega arith) (omega arith) (omega arith)
    (expr_list c.args.given.now) c.skip-3.new.self.at c.known.result.now c.known-2.result.now c.is_some.result c.is_number_of.result c.is_number_of-2.result
    c.args.walk.now.first c.demand.new.self.first c.demand-2.new.self.first c.demand-3.new.self.first c.link.new.walk.first c.values.new.walk.first c.names.new.walk.first (omega arith)
    (c.is_some.ensures ∙ known_some c.arguments_of-arguments.result) (c.is_number_of.ensures ∙ ap (λ n. is_number_of n types) (number_list c.args.given.now)) c.is_number_of-2.ensures c.known.ensures c.known-2.ensures
    (cc c.demand.ensures.first) (cc c.demand-2.ensures.first) (cc c.demand-3.ensures.first)
    (c.link.ensures.first ∙ ap (λ o. first_with o (link_faults s c.skip-2.new.self.at c.args.name.now)) c.skip-2.ensures.first)
    c.values.ensures.first
    (c.names.ensures.first ∙ ap (λ o. first_with o (names_faults (wants 18) s (c.skip-3.new.self.at + 1) c.args.taken.now c.known-2.result.now)) c.skip-3.ensures.first)
