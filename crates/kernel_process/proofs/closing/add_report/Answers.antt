-- The process that is set has the reports, and nothing else changes.
use Rattle.std.proofs.Common.{◌++◌, [], ◌∷◌, ap, refl, arith}
use Rattle.kernel_step.specs.Kernel.{Process}
use Rattle.kernel_process.specs.Parts.{process_state}
use Rattle.kernel_process.proofs.Closes.{sets-by, takes-set}
use Rattle.kernel_process.proofs.closing.add_report.Goals as goal

pub returns-clause-part : goal.returns-clause-part
returns-clause-part c =
    λ t s. sets-by t c.args.processes.now c.from.result _ c.at_mut-process.result.now s c.args.p (λ x. record x { reports = x.reports ++ c.args.report ∷ [] }) (c.at_mut-process.ensures.value _) c.from.ensures c.requires.process
    (ap {B = Process} (λ rs. record (process_state c.at_mut-process.result.now) { reports = rs }) c.push.ensures.items)

pub returns-clause-kept : goal.returns-clause-kept
returns-clause-kept c =
    takes-set 1 c.args.processes.now c.from.result _ c.at_mut-process.result.now c.args.p (c.at_mut-process.ensures.value _) c.from.ensures c.requires.process refl (omega (arith, c.push.ensures.fits))
