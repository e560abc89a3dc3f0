-- The process that is set has the phase, and nothing else changes.
use Rattle.std.proofs.Common.{refl}
use Rattle.service_step.specs.State.{turns}
use Rattle.service_processes.proofs.Blocks.{sets-by, known-same}
use Rattle.service_processes.proofs.processes.Processes.turn.Goals as goal

pub returns-clause-process : goal.returns-clause-process
unfolding turns
returns-clause-process c = sets-by c.args.self.now c.from.result c.at_mut-block.result.now _ c.args.p (c.at_mut-block.ensures.value _) c.from.ensures c.requires (λ x. record x { phase = c.args.phase }) refl

pub returns-clause-known : goal.returns-clause-known
returns-clause-known c = known-same c.args.self.now c.from.result c.at_mut-block.result.now _ c.args.p (c.at_mut-block.ensures.value _) c.from.ensures c.requires refl refl
