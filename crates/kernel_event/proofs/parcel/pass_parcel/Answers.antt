-- The values that pass are away, and leave again.
use Rattle.std.proofs.Common.{ap, ◌∙◌}
use Rattle.end_table.specs.Table.{entries}
use Rattle.kernel_event.proofs.Brought.{passed-away}
use Rattle.kernel_step.specs.Progress.{progress}
use Rattle.kernel_step.specs.Rows.{arrive_row, sends_back}
use Rattle.kernel_event.proofs.parcel.pass_parcel.Goals as goal

pub arrive-requires-clause-away : goal.arrive-requires-clause-away
arrive-requires-clause-away c = passed-away c.args.table.now c.args.made c.args.moving.now c.requires.placed c.passing-passed.result c.passing-passed.ensures

pub returns-clause-part : goal.returns-clause-part
unfolding progress
returns-clause-part c = λ hops bytes.
    c.arrive.ensures.part
    ∙ ap (λ o. arrive_row c.args.table.now.kernel c.args.head.to c.args.head.n c.args.head.site.at c.passing-passed.result o (progress (entries c.args.table.now) c.args.out.now)) c.requires.unasked
    ∙ ap (λ ms. sends_back c.args.table.now.kernel c.args.head.to c.args.head.n c.args.head.site.at ms (progress (entries c.args.table.now) c.args.out.now)) c.passing-passed.ensures
