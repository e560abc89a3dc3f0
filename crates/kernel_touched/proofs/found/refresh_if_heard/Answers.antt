-- The sets are as before, where nothing changed that they tell.
use Rattle.std.proofs.Common.{refl}
use Rattle.end_table.specs.Table.{entries}
use Rattle.kernel_process.proofs.ActiveSets.{tells_same}
use Rattle.kernel_touched.proofs.found.refresh_if_heard.Goals as goal

pub returns-then-heard-clause-told : goal.returns-then-heard-clause-told
returns-then-heard-clause-told c = λ t before told calm away. c.refresh_owner.ensures.told t (before c.if-heard.true) told calm

pub returns-else-heard-clause-told : goal.returns-else-heard-clause-told
returns-else-heard-clause-told c = λ t before told calm away.
    tells_same t (entries c.args.table.now) c.args.processes.now c.args.processes.now told refl (away c.if-heard.false)
