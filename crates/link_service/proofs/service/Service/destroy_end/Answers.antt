use Rattle.std.proofs.Common.{sym, subst}
use Rattle.service_processes.specs.Known.{known_of}
use Rattle.link_service.specs.Service.{AreKnown}
use Rattle.link_service.proofs.Known.{AreKnown-destroys}
use Rattle.link_service.proofs.service.Service.destroy_end.Goals as goal

pub invariant_of-self : goal.invariant_of-self
invariant_of-self c =
    subst (AreKnown (known_of c.self.inside.processes)) (sym c.destroy.ensures)
    (AreKnown-destroys _ _ _ c.self.invariant)
