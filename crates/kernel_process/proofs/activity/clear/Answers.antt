-- One process is set, with an empty set of ends.
use Rattle.kernel_process.specs.Parts.{process_state}
use Rattle.kernel_process.proofs.ActiveSets.{set_empties}
use Rattle.std.proofs.Common.{ap}
use Rattle.kernel_process.proofs.Rooms.{same_map}
use Rattle.kernel_process.proofs.activity.clear.Goals as goal

pub returns-clause-kept : goal.returns-clause-kept
returns-clause-kept c = same_map process_state c.args.processes.now c.from.result c.at_mut-process.result.now _ (ap process_state (c.at_mut-process.ensures.value _))

pub returns-clause-active : goal.returns-clause-active
returns-clause-active c = set_empties c.args.processes.now c.from.result c.at_mut-process.result.now _ c.args.p c.from.ensures c.requires c.clear.ensures.empty
