-- The first report leaves the process that is set, and nothing else changes.
use Rattle.std.proofs.Common.{◌≡◌, ◌++◌, drop, option_to_list, subst, sym, ◌∙◌, ap, refl, arith, length, ◌<◌}
use Rattle.kernel_step.specs.Kernel.{Process, process_of}
use Rattle.kernel_process.specs.Parts.{process_state, with_parts}
use Rattle.kernel_process.proofs.Closes.{sets-by, takes-set}
use Rattle.kernel_process.proofs.OneProcess.{process_of-at}
use Rattle.kernel_process.proofs.closing.first_report.Goals as goal

pub returns-clause-part : goal.returns-clause-part
returns-clause-part c =
    λ t s. sets-by t c.args.processes.now c.from.result _ c.at_mut-process.result.now s c.args.p (λ x. record x { reports = drop 1 x.reports }) (c.at_mut-process.ensures.value _) c.from.ensures c.requires
    (ap {B = Process} (λ rs. record (process_state c.at_mut-process.result.now) { reports = rs }) c.pop.ensures.rest)

pub returns-clause-first : goal.returns-clause-first
returns-clause-first c = λ t s.
    let below : c.from.result < length c.args.processes.now = subst (λ n. n < length c.args.processes.now) (sym c.from.ensures) c.requires in
    let at : process_of c.args.p (with_parts t c.args.processes.now s) ≡ process_state c.at_mut-process.result.now
    = process_of-at t c.args.processes.now c.at_mut-process.result.now s c.from.result c.args.p c.from.ensures below ∙ ap process_state (sym (c.at_mut-process.ensures.value _)) in
    ap (λ x. x.reports) at ∙ c.pop.ensures.first ∙ ap (λ rs. option_to_list c.pop.result ++ rs) c.pop.ensures.rest
    ∙ ap (λ x. option_to_list c.pop.result ++ drop 1 x.reports) (sym at)

pub returns-clause-kept : goal.returns-clause-kept
returns-clause-kept c =
    takes-set 0 c.args.processes.now c.from.result _ c.at_mut-process.result.now c.args.p (c.at_mut-process.ensures.value _) c.from.ensures c.requires refl (omega (arith, c.pop.ensures.fits))
