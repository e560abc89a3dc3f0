use Rattle.std.proofs.Common.{ap, ◌∙◌, arith}
use Rattle.typing_rules.specs.Meanings.{scope_of}
use Rattle.typing_rules.specs.Progress.{first_with}
use Rattle.typing_rules.specs.Statements.{link_faults}
use Rattle.typing_statements.proofs.Actions.{new_first}
use Rattle.typing_statements.proofs.action.new_link.Goals as goal

pub returns-clause-first : goal.returns-clause-first
returns-clause-first c =
    let s = scope_of c.args.scope.now in
    new_first s c.args.walk.now.at c.args.first.now c.args.second.now c.skip.new.self.at c.skip-2.new.self.at c.ne.result c.args.walk.now.first c.link.new.walk.first c.link-2.new.walk.first c.demand.new.self.first
    (omega arith) (omega arith) (cc c.ne.ensures)
    (c.link.ensures.first ∙ ap (λ o. first_with o (link_faults s c.skip.new.self.at c.args.first.now)) c.skip.ensures.first)
    (c.link-2.ensures.first ∙ ap (λ o. first_with o (link_faults s c.skip-2.new.self.at c.args.second.now)) c.skip-2.ensures.first)
    (cc c.demand.ensures.first)
