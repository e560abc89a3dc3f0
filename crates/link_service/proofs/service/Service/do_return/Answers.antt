use Rattle.std.proofs.Common.{◌∙◌, ap}
use Rattle.service_step.specs.Ends.{carried_by, matched_message}
use Rattle.service_step.specs.State.{State}
use Rattle.service_step.specs.declared.state.End.{End}
use Rattle.link_service.specs.Service.{state_of}
use Rattle.service_links.specs.Links.{ends_of}
use Rattle.link_service.proofs.After.{after_return-by, owner-needs}
use Rattle.link_service.proofs.service.Service.do_return.Goals as goal

pub return_message-requires : goal.return_message-requires
return_message-requires c =
    owner-needs (λ (x : End). carried_by (matched_message x.outward)) c.args.self.now c.learn_for_owner.new.self c.tell_returned.new.self c.args.e c.args.e c.look.result.now c.as_slice.result.now
    (c.look.ensures ∙ ap (λ l. ends_of l c.args.e) c.links.ensures) (c.as_slice.ensures.same ∙ c.matched_ends-carried.ensures) c.learn_for_owner.ensures.links c.in_ok-learn_for_owner.ensures.known
    c.tell_returned.ensures.links c.tell_returned.ensures.known

pub returns-clause-ok : goal.returns-clause-ok
unfolding state_of
returns-clause-ok c =
    after_return-by (state_of c.args.self.now) (state_of c.learn_for_owner.new.self) (state_of c.tell_returned.new.self) (state_of c.return_message.new.self) c.args.e c.learn_for_owner.ensures.same
    ((state_of c.learn_for_owner.new.self).ends c.args.e) (ap (λ (s : State). s.ends c.args.e) c.learn_for_owner.ensures.same) c.in_ok-tell_returned.ensures.ok c.return_message.ensures
