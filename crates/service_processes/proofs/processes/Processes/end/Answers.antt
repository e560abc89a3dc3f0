-- The process that is set has ended, and nothing else changes.
use Rattle.std.proofs.Common.{refl, ap}
use Rattle.std.proofs.Common.{List}
use Rattle.charlotte_calls.specs.declared.calls.Report.{Report}
use Rattle.service_step.specs.State.{Process, ends_process, no_process}
use Rattle.service_step.specs.declared.state.Phase.TheVariants.{Ended}
use Rattle.service_processes.proofs.Blocks.{sets-by, known-same}
use Rattle.service_processes.proofs.processes.Processes.end.Goals as goal

pub returns-clause-process : goal.returns-clause-process
unfolding ends_process
returns-clause-process c =
    sets-by c.args.self.now c.from.result c.at_mut-block.result.now _ c.args.p (c.at_mut-block.ensures.value _) c.from.ensures c.requires (λ _. no_process)
    (ap {B = Process} (λ (rs : List Report). record { phase = Ended; reports = rs }) c.clear.ensures.items)

pub returns-clause-known : goal.returns-clause-known
returns-clause-known c = known-same c.args.self.now c.from.result c.at_mut-block.result.now _ c.args.p (c.at_mut-block.ensures.value _) c.from.ensures c.requires refl refl
