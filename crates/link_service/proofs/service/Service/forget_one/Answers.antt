use Rattle.std.proofs.Common.{sym, ap, ◌∙◌}
use Rattle.service_step.specs.Ends.{is_owned_by}
use Rattle.service_step.specs.declared.state.End.{End}
use Rattle.link_service.proofs.Known.{AreKnown-forgets}
use Rattle.link_service.proofs.service.Service.forget_one.Goals as goal

pub invariant_of-self : goal.invariant_of-self
invariant_of-self c =
    AreKnown-forgets c.args.p c.args.e _ _ _ c.forget.ensures.forgets
    (ap (λ (x : End). is_owned_by c.args.p x.place) (sym c.look.ensures) ∙ sym c.is_owned_by.ensures ∙ c.if-is_owned_by.false) c.self.invariant
