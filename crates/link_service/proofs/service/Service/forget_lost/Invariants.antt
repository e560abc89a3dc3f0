-- only what is known changes
use Rattle.std.proofs.Common.{◌≡◌}
use Rattle.link_service.specs.Service.{state_of}
use Rattle.link_service.proofs.service.Service.forget_lost.Given as goal

abbrev pub invariant-loop-end : goal.invariant-loop-end
invariant-loop-end l = state_of l.self ≡ state_of l.fn.self
