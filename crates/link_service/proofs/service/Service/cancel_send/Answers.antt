use Rattle.std.proofs.Common.{◌∙◌, ap, sym, refl}
use Rattle.service_links.specs.Links.{ends_of}
use Rattle.service_step.specs.Ends.{carried_by, owner, waiting_message}
use Rattle.service_step.specs.declared.state.End.{End}
use Rattle.link_service.specs.Service.{state_of}
use Rattle.link_service.proofs.After.{after_cancel-by, after_cancel-none, process-needs}
use Rattle.link_service.proofs.Known.{owned-owner}
use Rattle.link_service.proofs.service.Service.cancel_send.Goals as goal

pub withdraw_send-requires : goal.withdraw_send-requires
unfolding state_of
withdraw_send-requires c =
    process-needs (λ (x : End). carried_by (waiting_message x.outward)) c.args.self.now c.learn_for_owner.new.self c.learn_for_owner.new.self c.args.e c.args.e c.look-end.result.now c.as_slice.result.now
    (c.look-end.ensures ∙ ap (λ l. ends_of l c.args.e) c.links.ensures) (c.as_slice.ensures.same ∙ c.waiting_ends-carried.ensures) c.learn_for_owner.ensures.links c.in_ok-learn_for_owner.ensures.known
    refl refl c.in-Some.p (owned-owner c.in-Some.p _ (sym (c.in-Some.ensures ∙ ap (λ (x : End). owner x.place) (c.look-end.ensures ∙ ap (λ l. ends_of l c.args.e) c.links.ensures))))

pub returns-in-Some-clause-ok : goal.returns-in-Some-clause-ok
unfolding state_of
returns-in-Some-clause-ok c =
    after_cancel-by (state_of c.args.self.now) (state_of c.learn_for_owner.new.self) (state_of c.withdraw_send.new.self) (state_of c.args.self.now) c.args.e c.learn_for_owner.ensures.same
    c.in-Some.p c.look-end.result.now (c.look-end.ensures ∙ ap (λ l. ends_of l c.args.e) c.links.ensures) c.in-Some.ensures c.withdraw_send.ensures

pub returns-in-None-clause-ok : goal.returns-in-None-clause-ok
unfolding state_of
returns-in-None-clause-ok c =
    after_cancel-none (state_of c.args.self.now) (state_of c.learn_for_owner.new.self) (state_of c.args.self.now) (state_of c.args.self.now) c.args.e c.learn_for_owner.ensures.same
    c.look-end.result.now (c.look-end.ensures ∙ ap (λ l. ends_of l c.args.e) c.links.ensures) c.in-None.ensures
