-- The report goes into the process that is set, whose oldest leaves it, and nothing else changes.
use Rattle.std.proofs.Common.{◌≡◌, [], ◌∷◌, ◌++◌, drop, length, ◌<◌, ap, refl, subst, sym, ◌∙◌, arith}
use Rattle.kernel_step.specs.Kernel.{Process, process_of}
use Rattle.kernel_process.specs.Parts.{process_state, with_parts}
use Rattle.kernel_process.proofs.Closes.{first-told, sets-by, takes-set}
use Rattle.kernel_process.proofs.OneProcess.{process_of-at}
use Rattle.kernel_process.proofs.closing.exchange_report.Goals as goal

pub returns-clause-part : goal.returns-clause-part
returns-clause-part c =
    λ t s. sets-by t c.args.processes.now c.from.result _ c.at_mut-process.result.now s c.args.p (λ x. record x { reports = drop 1 (x.reports ++ c.args.report ∷ []) }) (c.at_mut-process.ensures.value _) c.from.ensures c.requires.process
    (ap {B = Process} (λ rs. record (process_state c.at_mut-process.result.now) { reports = rs }) (sym (ap (drop 1) c.exchange.ensures.items)))

pub returns-clause-oldest : goal.returns-clause-oldest
returns-clause-oldest c = λ t s.
    let below : c.from.result < length c.args.processes.now = subst (λ n. n < length c.args.processes.now) (sym c.from.ensures) c.requires.process in
    let at : process_of c.args.p (with_parts t c.args.processes.now s) ≡ process_state c.at_mut-process.result.now
    = process_of-at t c.args.processes.now c.at_mut-process.result.now s c.from.result c.args.p c.from.ensures below ∙ ap process_state (sym (c.at_mut-process.ensures.value _)) in
    first-told _ _ c.exchange.result (ap (λ x. x.reports ++ c.args.report ∷ []) at ∙ c.exchange.ensures.items)

pub returns-clause-kept : goal.returns-clause-kept
returns-clause-kept c =
    takes-set 1 c.args.processes.now c.from.result _ c.at_mut-process.result.now c.args.p (c.at_mut-process.ensures.value _) c.from.ensures c.requires.process refl (omega (arith, c.exchange.ensures.fits))
