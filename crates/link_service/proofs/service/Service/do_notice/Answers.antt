use Rattle.std.proofs.Common.{◌∙◌, ap}
use Rattle.service_step.specs.Ends.{carried_by, waiting_message}
use Rattle.service_step.specs.declared.state.End.{End}
use Rattle.link_service.specs.Service.{state_of}
use Rattle.service_links.specs.Links.{ends_of}
use Rattle.link_service.proofs.After.{after_notice-by, owner-needs}
use Rattle.link_service.proofs.service.Service.do_notice.Goals as goal

pub notice_end-requires : goal.notice_end-requires
notice_end-requires c =
    owner-needs (λ (x : End). carried_by (waiting_message x.outward)) c.args.self.now c.learn_for_owner.new.self c.tell_owner.new.self c.args.e c.args.e c.look-end.result.now c.as_slice.result.now
    (c.look-end.ensures ∙ ap (λ l. ends_of l c.args.e) c.links.ensures) (c.as_slice.ensures.same ∙ c.waiting_ends-carried.ensures) c.learn_for_owner.ensures.links c.in_ok-learn_for_owner.ensures.known
    c.tell_owner.ensures.links c.tell_owner.ensures.known

pub returns-clause-ok : goal.returns-clause-ok
unfolding state_of
returns-clause-ok c =
    after_notice-by (state_of c.args.self.now) (state_of c.learn_for_owner.new.self) (state_of c.tell_owner.new.self) (state_of c.notice_end.new.self) c.args.e c.learn_for_owner.ensures.same
    _ _ c.look-end.result.now (c.look-end.ensures ∙ ap (λ l. ends_of l c.args.e) c.links.ensures) c.in_ok-sent.ensures c.dead_report-received.ensures c.in_ok-tell_owner.ensures.ok c.notice_end.ensures
