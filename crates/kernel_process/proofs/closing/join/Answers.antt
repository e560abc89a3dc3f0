-- The report joins the others, of which the oldest answers the Wait.
use Rattle.std.proofs.Common.{◌∙◌, sym, arith}
use Rattle.end_table.specs.Table.{entries}
use Rattle.kernel_process.proofs.Closes.{joins-behind, joins-waiting, takes-both}
use Rattle.kernel_process.specs.Parts.{with_parts}
use Rattle.kernel_process.proofs.closing.join.Goals as goal

pub returns-then-is_in_wait-clause-part : goal.returns-then-is_in_wait-clause-part
returns-then-is_in_wait-clause-part c =
    λ s. c.answer_wait.ensures.part s
    ∙ joins-waiting c.args.p c.args.report c.exchange_report-oldest.result _ (with_parts (entries c.args.table.now) c.args.processes.now s) _ c.args.effect.now
    (sym (c.is_in_wait.ensures (entries c.args.table.now) s) ∙ c.if-is_in_wait.true) (c.exchange_report-oldest.ensures.oldest (entries c.args.table.now) s)
    (c.exchange_report-oldest.ensures.part (entries c.args.table.now) s)

pub returns-then-is_in_wait-clause-kept : goal.returns-then-is_in_wait-clause-kept
returns-then-is_in_wait-clause-kept c = takes-both 1 0 1 _ _ _ (omega arith) c.exchange_report-oldest.ensures.kept c.answer_wait.ensures.kept

pub returns-else-is_in_wait-clause-part : goal.returns-else-is_in_wait-clause-part
returns-else-is_in_wait-clause-part c =
    λ s. joins-behind c.args.p c.args.report (with_parts (entries c.args.table.now) c.args.processes.now s) _ c.args.effect.now
    (sym (c.is_in_wait.ensures (entries c.args.table.now) s) ∙ c.if-is_in_wait.false) (c.add_report.ensures.part (entries c.args.table.now) s)
