-- The first report answers the Wait, or the process is in it.
use Rattle.std.proofs.Common.{◌≡◌, drop, ap, ◌∙◌, sym, arith}
use Rattle.end_table.specs.Table.{entries}
use Rattle.kernel_process.proofs.Closes.{drop-same, takes-both, waits-idle, waits-left, with_process-same}
use Rattle.kernel_process.specs.Parts.{with_parts}
use Rattle.kernel_step.specs.Kernel.{Kernel, process_of, turns, with_process}
use Rattle.kernel_step.specs.declared.phase.Phase.TheVariants.{Waiting}
use Rattle.kernel_process.proofs.closing.wait.Goals as goal

pub returns-in-Some-clause-part : goal.returns-in-Some-clause-part
returns-in-Some-clause-part c = λ s.
    let before : Kernel = with_parts (entries c.args.table.now) c.args.processes.now s in
    c.answer_wait.ensures.part s
    ∙ waits-left c.args.p c.in-Some.report (process_of c.args.p before).reports (drop 1 (process_of c.args.p before).reports) before _ c.args.effect.now
    (c.in-Some.ensures.first (entries c.args.table.now) s) (c.in-Some.ensures.part (entries c.args.table.now) s)

pub returns-in-Some-clause-kept : goal.returns-in-Some-clause-kept
returns-in-Some-clause-kept c = takes-both 0 0 0 _ _ _ (omega arith) c.in-Some.ensures.kept c.answer_wait.ensures.kept

pub returns-in-None-clause-part : goal.returns-in-None-clause-part
returns-in-None-clause-part c = λ s.
    let before : Kernel = with_parts (entries c.args.table.now) c.args.processes.now s in
    let none : (process_of c.args.p before).reports ≡ drop 1 (process_of c.args.p before).reports = c.in-None.ensures.first (entries c.args.table.now) s in
    waits-idle c.args.p (process_of c.args.p before).reports before _ c.args.effect.now (drop-same (process_of c.args.p before).reports none)
    (c.turn.ensures.part (entries c.args.table.now) s ∙ ap (turns c.args.p Waiting) (c.in-None.ensures.part (entries c.args.table.now) s
    ∙ ap (λ rs. with_process c.args.p (record (process_of c.args.p before) { reports = rs }) before) (sym none) ∙ with_process-same c.args.p before))

pub returns-in-None-clause-kept : goal.returns-in-None-clause-kept
returns-in-None-clause-kept c = takes-both 0 0 0 _ _ _ (omega arith) c.in-None.ensures.kept c.turn.ensures.kept
