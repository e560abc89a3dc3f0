-- One process is set, with another set of ends.
use Rattle.kernel_process.specs.Parts.{process_state}
use Rattle.kernel_process.proofs.ActiveSets.{set_refreshes}
use Rattle.std.proofs.Common.{ap}
use Rattle.kernel_process.proofs.Rooms.{same_map}
use Rattle.kernel_process.proofs.activity.forget.Goals as goal

pub returns-clause-kept : goal.returns-clause-kept
returns-clause-kept c = same_map process_state c.args.processes.now c.from.result c.at_mut-process.result.now _ (ap process_state (c.at_mut-process.ensures.value _))

pub returns-clause-active : goal.returns-clause-active
returns-clause-active c =
    set_refreshes c.args.processes.now c.from.result c.at_mut-process.result.now _ c.args.p c.args.end _ (c.at_mut-process.ensures.value _) c.from.ensures c.requires.process c.remove.ensures.keys
