-- The process that is set lacks the end, and nothing else changes.
use Rattle.std.proofs.Common.{refl}
use Rattle.service_processes.proofs.Blocks.{state-same, known-forgets}
use Rattle.service_processes.proofs.processes.Processes.forget.Goals as goal

pub returns-clause-process : goal.returns-clause-process
returns-clause-process c = state-same c.args.self.now c.from.result c.at_mut-block.result.now _ c.args.p (c.at_mut-block.ensures.value _) c.from.ensures c.requires refl

pub returns-clause-forgets : goal.returns-clause-forgets
returns-clause-forgets c = known-forgets c.args.self.now c.from.result c.at_mut-block.result.now _ c.args.p (c.at_mut-block.ensures.value _) c.from.ensures c.requires c.args.e c.remove.ensures c.remove-2.ensures
