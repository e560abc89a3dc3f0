-- The values that pass are away, and are destroyed.
use Rattle.std.proofs.Common.{ap, ◌∙◌}
use Rattle.end_table.specs.Table.{entries}
use Rattle.kernel_event.proofs.Brought.{passed-away}
use Rattle.kernel_step.specs.Progress.{progress}
use Rattle.kernel_step.specs.Rows.{is_here, means_back, give_back_row, end_arrivals}
use Rattle.kernel_event.proofs.back.end_brought.Goals as goal

pub give_back-requires-clause-away : goal.give_back-requires-clause-away
give_back-requires-clause-away c = passed-away c.args.table.now c.args.made c.args.moving.now c.requires.placed c.passing-passed.result c.passing-passed.ensures

pub returns-clause-part : goal.returns-clause-part
unfolding progress
returns-clause-part c =
    c.give_back.ensures.part
    ∙ ap (λ o. give_back_row c.args.table.now.kernel c.passing-passed.result o (progress (entries c.args.table.now) c.mean_back.new.out)) c.requires.unmatched
    ∙ ap (end_arrivals c.args.table.now.kernel c.passing-passed.result) (c.mean_back.ensures.part (entries c.args.table.now))
    ∙ ap (λ here. end_arrivals c.args.table.now.kernel c.passing-passed.result (means_back c.args.returned.to c.args.returned.n here c.passing-passed.result (progress (entries c.args.table.now) c.args.out.now))) c.is_here-here.ensures
    ∙ ap (λ ms. end_arrivals c.args.table.now.kernel ms (means_back c.args.returned.to c.args.returned.n (is_here (entries c.args.table.now c.args.returned.to)) ms (progress (entries c.args.table.now) c.args.out.now))) c.passing-passed.ensures
