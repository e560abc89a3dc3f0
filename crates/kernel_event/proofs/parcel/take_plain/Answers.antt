-- A parcel without values is its message alone.
use Rattle.std.proofs.Common.{ap, ◌∙◌}
use Rattle.end_table.specs.Table.{entries}
use Rattle.kernel_event.proofs.Brought.{parcel-plain}
use Rattle.kernel_step.specs.Progress.{progress}
use Rattle.kernel_step.specs.Rows.{asks, arrived_row}
use Rattle.kernel_event.proofs.parcel.take_plain.Goals as goal

pub returns-clause-part : goal.returns-clause-part
returns-clause-part c = λ made.
    c.arrived.ensures.part
    ∙ ap (λ bytes. arrived_row c.args.table.now.kernel c.args.head.n c.args.head.site.at c.args.head.site.hops bytes c.no_ends.result (asks c.args.head.w (entries c.args.table.now c.args.head.to)) (progress (entries c.args.table.now) c.args.out.now)) c.copy.ensures
    ∙ ap (λ xs. arrived_row c.args.table.now.kernel c.args.head.n c.args.head.site.at c.args.head.site.hops c.args.bytes.now xs (asks c.args.head.w (entries c.args.table.now c.args.head.to)) (progress (entries c.args.table.now) c.args.out.now)) c.no_ends.ensures
    ∙ parcel-plain c.args.table.now.kernel made c.args.head.to c.args.head.n c.args.head.site.at c.args.head.site.hops c.args.bytes.now (asks c.args.head.w (entries c.args.table.now c.args.head.to)) (progress (entries c.args.table.now) c.args.out.now) c.requires.asked
