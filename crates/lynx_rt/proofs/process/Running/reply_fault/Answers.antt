use Rattle.std.proofs.Common.{sym, ap, ◌∙◌}
use Rattle.process_run.specs.States.{Open}
use Rattle.process_run.specs.Ends.{held_at}
use Rattle.lynx_rt.specs.Changes.{dead_fault, fault_on}
use Rattle.lynx_rt.proofs.Replying.{fault_answered, fault_dead, fault_links}
use Rattle.lynx_rt.proofs.process.Running.reply_fault.Goals as goal

pub returns-then-request : goal.returns-then-request
returns-then-request c = fault_answered c.args.request c.args.links.now c.args.self.now (sym (ap (λ (o : Open). o.answered) c.request.view_is) ∙ c.if-request.true)

pub returns-then-is_some : goal.returns-then-is_some
returns-then-is_some c = fault_dead c.args.request c.args.links.now c.args.self.now c.dead_fault.result (sym (ap (λ (o : Open). o.answered) c.request.view_is) ∙ c.if-request.false) (c.dead_fault.ensures ∙ ap (λ (o : Open). dead_fault (held_at o.on c.args.self.now)) c.request.view_is) (sym c.is_some.ensures ∙ c.if-is_some.true)

pub returns : goal.returns
returns c =
    c.link_fault.ensures ∙ ap (λ (o : Open). fault_on (held_at o.on c.args.self.now) c.args.links.now c.args.self.now) c.request.view_is
    ∙ fault_links c.args.request c.args.links.now c.args.self.now c.dead_fault.result (sym (ap (λ (o : Open). o.answered) c.request.view_is) ∙ c.if-request.false) (c.dead_fault.ensures ∙ ap (λ (o : Open). dead_fault (held_at o.on c.args.self.now)) c.request.view_is) (sym c.is_some.ensures ∙ c.if-is_some.false)
