-- The process that is set lacks its last end with an activity, and nothing else changes.
use Rattle.std.proofs.Common.{refl}
use Rattle.service_processes.proofs.Blocks.{state-same, loses-last}
use Rattle.service_processes.proofs.processes.Processes.forget_last_active.Goals as goal

pub returns-clause-process : goal.returns-clause-process
returns-clause-process c = state-same c.args.self.now c.from.result c.at_mut-block.result.now _ c.args.p (c.at_mut-block.ensures.value _) c.from.ensures c.requires refl

pub returns-clause-loses : goal.returns-clause-loses
returns-clause-loses c = loses-last c.args.self.now c.from.result c.at_mut-block.result.now _ c.args.p (c.at_mut-block.ensures.value _) c.from.ensures c.requires refl c.pop-last.result c.pop-last.ensures.keys c.pop-last.ensures.found.1
