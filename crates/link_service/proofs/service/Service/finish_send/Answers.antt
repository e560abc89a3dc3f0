use Rattle.std.proofs.Common.{sym, subst, true≢false}
use Rattle.service_processes.specs.Known.{known_of}
use Rattle.link_service.specs.Service.{AreKnown}
use Rattle.link_service.proofs.Known.{AreKnown-turns_outward}
use Rattle.link_service.proofs.service.Service.finish_send.Goals as goal

pub invariant_of-self : goal.invariant_of-self
invariant_of-self c =
    subst (AreKnown (known_of c.self.inside.processes)) (sym c.finish_send.ensures)
    (AreKnown-turns_outward _ _ c.self.invariant _ _ (λ f. absurd (true≢false (sym f))))
