-- Where there are no values, the message is taken alone.
use Rattle.std.proofs.Common.{ap, sym, ◌∙◌}
use Rattle.end_table.specs.Table.{entries}
use Rattle.kernel_step.specs.Progress.{progress}
use Rattle.kernel_step.specs.Rows.{asks, parcel_row}
use Rattle.kernel_event.proofs.parcel.take_parcel.Goals as goal

pub returns-then-is_empty-clause-part : goal.returns-then-is_empty-clause-part
returns-then-is_empty-clause-part c =
    c.take_plain.ensures.part c.args.made
    ∙ ap (λ ms. parcel_row c.args.table.now.kernel c.args.made c.args.head.to c.args.head.n c.args.head.site.at c.args.head.site.hops c.args.bytes.now ms (asks c.args.head.w (entries c.args.table.now c.args.head.to))
    (progress (entries c.args.table.now) c.args.out.now))
    (sym (c.is_empty.ensures c.if-is_empty.true))
