-- At first none became here.
use Rattle.std.proofs.Common.{◌++◌, ap, ◌∙◌}
use Rattle.end_table.specs.Table.{entries}
use Rattle.kernel_step.specs.Rows.{arriving}
use Rattle.kernel_event.specs.Arrived.{with_here}
use Rattle.kernel_event.proofs.CarriedValues.{with_here-none}
use Rattle.kernel_event.proofs.carried.arriving.Goals as goal

pub returns : goal.returns
returns c = λ h.
    c.add_arriving.ensures h
    ∙ ap (λ l. l ++ arriving c.args.table.now.kernel c.args.made h (with_here h l (entries c.args.table.now)) c.args.moving.now) c.empty-came.ensures
    ∙ ap (λ t. arriving c.args.table.now.kernel c.args.made h t c.args.moving.now) (with_here-none h (entries c.args.table.now))
