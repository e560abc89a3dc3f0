-- An entry at which nothing is over stays.
use Rattle.std.proofs.Common.{sym}
use Rattle.charlotte_calls.specs.declared.names.Way.TheVariants as way
use Rattle.end_table.specs.Table.{entries}
use Rattle.kernel_process.proofs.Closes.{put-same}
use Rattle.kernel_step.specs.Kernel.{reported_entry}
use Rattle.kernel_process.proofs.closing.settle_send.Goals as goal

pub returns-in_default-clause-entries : goal.returns-in_default-clause-entries
returns-in_default-clause-entries c =
    sym (put-same (entries c.args.table.now) c.args.on (reported_entry way.Outward (entries c.args.table.now c.args.on)) c.in_default.ensures.none)
