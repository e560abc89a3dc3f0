-- A parcel where its receive is not started.
use Rattle.std.proofs.Common.{ap, ◌∙◌}
use Rattle.end_table.specs.Table.{entries}
use Rattle.kernel_step.specs.Progress.{progress}
use Rattle.kernel_step.specs.Rows.{parcel_row}
use Rattle.kernel_event.proofs.parcel.parcel.Goals as goal

pub returns-in-None-clause-part : goal.returns-in-None-clause-part
returns-in-None-clause-part c =
    c.pass_parcel.ensures.part c.args.head.site.hops c.args.bytes.now
    ∙ ap (λ o. parcel_row c.args.table.now.kernel c.args.made c.args.head.to c.args.head.n c.args.head.site.at c.args.head.site.hops c.args.bytes.now c.args.moving.now o (progress (entries c.args.table.now) c.args.out.now)) c.in-None.ensures.view
