-- The report joins the others, of which the oldest answers the Wait.
use Rattle.std.proofs.Common.{[], ◌∷◌, List, ap, ◌∙◌, sym, arith}
use Rattle.charlotte_calls.specs.declared.calls.Report.{Report}
use Rattle.charlotte_calls.specs.declared.names.Pid.{Pid}
use Rattle.end_table.specs.Table.{entries}
use Rattle.kernel_process.proofs.Closes.{join_reports-only, joins-behind, joins-waiting, takes-both}
use Rattle.kernel_process.specs.Parts.{with_parts}
use Rattle.kernel_process.proofs.closing.join_only.Goals as goal

pub returns-then-is_in_wait-clause-part : goal.returns-then-is_in_wait-clause-part
returns-then-is_in_wait-clause-part c =
    λ s. join_reports-only c.args.p _ c.args.reports.now.items (with_parts (entries c.args.table.now) c.args.processes.now s) c.args.effect.now _
    (c.requires.only.1 ∙ ap {B = List (Pid × Report)} (λ r. (c.args.p, r) ∷ []) (sym (c.take_only-report.ensures c.args.p c.requires.only.0 c.requires.only.1)))
    (c.answer_wait.ensures.part s
    ∙ joins-waiting c.args.p c.take_only-report.result c.exchange_report-oldest.result _ (with_parts (entries c.args.table.now) c.args.processes.now s) _ c.args.effect.now
    (sym (c.is_in_wait.ensures (entries c.args.table.now) s) ∙ c.if-is_in_wait.true) (c.exchange_report-oldest.ensures.oldest (entries c.args.table.now) s)
    (c.exchange_report-oldest.ensures.part (entries c.args.table.now) s))

pub returns-then-is_in_wait-clause-kept : goal.returns-then-is_in_wait-clause-kept
returns-then-is_in_wait-clause-kept c = takes-both 1 0 1 _ _ _ (omega arith) c.exchange_report-oldest.ensures.kept c.answer_wait.ensures.kept

pub returns-else-is_in_wait-clause-part : goal.returns-else-is_in_wait-clause-part
returns-else-is_in_wait-clause-part c =
    λ s. join_reports-only c.args.p _ c.args.reports.now.items (with_parts (entries c.args.table.now) c.args.processes.now s) c.args.effect.now _
    (c.requires.only.1 ∙ ap {B = List (Pid × Report)} (λ r. (c.args.p, r) ∷ []) (sym (c.take_only-report-else-is_in_wait.ensures c.args.p c.requires.only.0 c.requires.only.1)))
    (joins-behind c.args.p c.take_only-report-else-is_in_wait.result (with_parts (entries c.args.table.now) c.args.processes.now s) _ c.args.effect.now
    (sym (c.is_in_wait.ensures (entries c.args.table.now) s) ∙ c.if-is_in_wait.false) (c.add_report.ensures.part (entries c.args.table.now) s))
