use Rattle.std.proofs.Common.{sym, subst}
use Rattle.service_processes.specs.Known.{known_of}
use Rattle.link_service.specs.Service.{AreKnown}
use Rattle.link_service.proofs.Known.{AreKnown-idles}
use Rattle.link_service.proofs.service.Service.idle.Goals as goal

pub invariant_of-self : goal.invariant_of-self
invariant_of-self c =
    subst (AreKnown (known_of c.self.inside.processes)) (sym c.idle.ensures)
    (AreKnown-idles _ _ _ _ c.self.invariant)
