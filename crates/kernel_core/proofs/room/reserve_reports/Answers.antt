-- The same sets have the same ends.
use Rattle.kernel_process.proofs.KeptMoved.{keys-moved}
use Rattle.kernel_core.proofs.room.reserve_reports.Goals as goal

pub returns-clause-active : goal.returns-clause-active
returns-clause-active c = keys-moved c.args.processes.now _ c.reserve_reports.ensures.active
