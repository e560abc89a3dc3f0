use Rattle.std.proofs.Common.{sym, subst, true≢false}
use Rattle.service_processes.specs.Known.{known_of}
use Rattle.service_step.specs.declared.state.Inward.TheVariants as inward
use Rattle.link_service.specs.Service.{AreKnown}
use Rattle.link_service.proofs.Known.{AreKnown-turns_inward}
use Rattle.link_service.proofs.service.Service.free_receive.Goals as goal

pub invariant_of-self : goal.invariant_of-self
invariant_of-self c =
    subst (AreKnown (known_of c.self.inside.processes)) (sym c.turn_inward.ensures)
    (AreKnown-turns_inward _ _ c.self.invariant inward.Idle c.args.e (λ f. absurd (true≢false (sym f))))
