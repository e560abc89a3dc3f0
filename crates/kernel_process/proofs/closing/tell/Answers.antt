-- The activity that is reported is idle, and the step says so.
use Rattle.std.proofs.Common.{◌++◌, [], ◌∷◌, ap, ◌∙◌, refl}
use Rattle.charlotte_calls.specs.declared.calls.ServiceStep.TheVariants as step
use Rattle.end_table.specs.Table.{entries}
use Rattle.kernel_process.proofs.Closes.{calm-by, tells-by}
use Rattle.kernel_process.proofs.closing.tell.Goals as goal

pub returns-clause-part : goal.returns-clause-part
returns-clause-part c =
    λ s xs others. tells-by (entries c.args.table.now) (entries c.settle_report.new.table) xs s c.args.effect.now _ c.args.p c.args.report.now others c.settle_report.ensures.entries refl refl
    (c.push_reserved.ensures.items ∙ ap (λ r. c.args.effect.now.steps.items ++ step.Report c.args.p r ∷ []) c.copy.ensures)

pub returns-clause-calm : goal.returns-clause-calm
returns-clause-calm c = calm-by c.args.table.now c.settle_report.new.table c.args.report.now.way c.args.report.now.on c.settle_report.ensures.entries c.settle_report.ensures.kernel
