-- A message that comes back where its send is not matched.
use Rattle.std.proofs.Common.{sym, ap, ◌∙◌}
use Rattle.end_table.specs.Table.{entries}
use Rattle.kernel_step.specs.Progress.{progress}
use Rattle.kernel_step.specs.Rows.{back_row}
use Rattle.kernel_event.proofs.back.back.Goals as goal

pub returns-in-None-clause-part : goal.returns-in-None-clause-part
returns-in-None-clause-part c =
    c.end_brought.ensures.part
    ∙ ap (λ o. back_row c.args.table.now.kernel c.args.made c.args.returned.from c.args.returned.to c.args.returned.n c.args.moving.now o (progress (entries c.args.table.now) c.args.out.now)) (sym (sym c.in-None.ensures.view))
