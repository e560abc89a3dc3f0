-- The process that is set has exited, and nothing else changes.
use Rattle.std.proofs.Common.{[], ap, refl, arith, Some}
use Rattle.charlotte_calls.specs.declared.calls.Answer.TheVariants as answer
use Rattle.kernel_step.specs.Kernel.{Process}
use Rattle.kernel_step.specs.declared.phase.Phase.TheVariants.{Exited}
use Rattle.kernel_process.proofs.Closes.{sets-by, takes-set}
use Rattle.kernel_process.proofs.closing.leave.Goals as goal

pub returns-clause-part : goal.returns-clause-part
returns-clause-part c =
    λ t s. sets-by t c.args.processes.now c.from.result _ c.at_mut-process.result.now s c.args.p (λ x. record { phase = Exited; reports = []; answer = Some answer.Ok }) (c.at_mut-process.ensures.value _) c.from.ensures c.requires
    (ap {B = Process} (λ rs. record { phase = Exited; reports = rs; answer = Some answer.Ok }) c.clear.ensures.items)

pub returns-clause-kept : goal.returns-clause-kept
returns-clause-kept c =
    takes-set 0 c.args.processes.now c.from.result _ c.at_mut-process.result.now c.args.p (c.at_mut-process.ensures.value _) c.from.ensures c.requires refl (omega (arith, c.clear.ensures.fits))
