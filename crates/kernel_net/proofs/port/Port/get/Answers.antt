use Rattle.kernel_net.proofs.Ports.{found-got}
use Rattle.kernel_net.proofs.port.Port.get.Goals as goal

pub returns-clause-some : goal.returns-clause-some
returns-clause-some c = found-got _ _ _ _ _ c.in-Some.ensures.some c.get_from.ensures.gets
