-- The process that is set runs with the answer, and nothing else changes.
use Rattle.std.proofs.Common.{refl, arith, Some}
use Rattle.kernel_step.specs.declared.phase.Phase.TheVariants.{Running}
use Rattle.kernel_process.proofs.Closes.{sets-by, takes-set}
use Rattle.kernel_process.proofs.closing.run_again.Goals as goal

pub returns-clause-part : goal.returns-clause-part
returns-clause-part c =
    λ t s. sets-by t c.args.processes.now c.from.result _ c.at_mut-process.result.now s c.args.p (λ x. record x { phase = Running; answer = Some c.args.answer }) (c.at_mut-process.ensures.value _) c.from.ensures c.requires refl

pub returns-clause-kept : goal.returns-clause-kept
returns-clause-kept c =
    takes-set 0 c.args.processes.now c.from.result _ c.at_mut-process.result.now c.args.p (c.at_mut-process.ensures.value _) c.from.ensures c.requires refl (omega arith)
