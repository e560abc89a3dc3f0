use Rattle.std.proofs.Common.{◌+◌, ap, ◌∙◌, arith}
use Rattle.lynx_tree.specs.Trees.{expr_list}
use Rattle.typing_rules.specs.Expressions.{values_faults}
use Rattle.typing_rules.specs.Meanings.{scope_of, types_known}
use Rattle.typing_rules.specs.Names.{known}
use Rattle.typing_rules.specs.Progress.{first_with}
use Rattle.typing_rules.specs.Rules.{wants, is_number_of}
use Rattle.typing_statements.specs.Requests.{request_of}
use Rattle.typing_statements.proofs.Actions.{reply_first, number_list}
use Rattle.typing_statements.proofs.action.reply.Goals as goal

pub returns-clause-first : goal.returns-clause-first
returns-clause-first c =
    let s = scope_of c.args.scope.now in
    let types = types_known c.results_needed-results.result in
    reply_first s c.args.walk.now.at (request_of c.args.request) (expr_list c.args.given.now) c.known.result.now c.skip.new.self.at c.has_request.result c.is_number_of.result
    c.args.walk.now.first c.demand.new.self.first c.demand-2.new.self.first c.values.new.walk.first (omega arith)
    c.has_request.ensures (c.is_number_of.ensures ∙ ap (λ n. is_number_of n types) (number_list c.args.given.now) ∙ ap (is_number_of _) c.results_needed-results.ensures) (c.known.ensures ∙ ap known c.results_needed-results.ensures)
    (cc c.demand.ensures.first) (cc c.demand-2.ensures.first)
    (c.values.ensures.first ∙ ap (λ o. first_with o (values_faults (wants 21) s (c.skip.new.self.at + 1) (expr_list c.args.given.now) c.known.result.now)) c.skip.ensures.first)
