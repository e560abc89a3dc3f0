-- each end that was met is forgotten
use Rattle.std.proofs.Common.{◌≡◌, length}
use Rattle.service_processes.specs.Known.{active_of}
use Rattle.link_service.specs.Service.{state_of}
use Rattle.link_service.proofs.service.Service.has_started.Given as goal

abbrev pub invariant-loop-e : goal.invariant-loop-e
invariant-loop-e l = state_of l.self ≡ state_of l.fn.self

abbrev pub decreases-loop-e : goal.decreases-loop-e
decreases-loop-e l = length (active_of l.self.processes l.p.0)
