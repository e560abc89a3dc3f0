-- Letting an answer go leaves the stamp.
use Rattle.std.proofs.Common.{ap}
use Rattle.kernel_core.specs.State.{state_of}
use Rattle.kernel_step.specs.Kernel.{Kernel}
use Rattle.kernel_core.proofs.kernel.Kernel.let_go.Goals as goal

pub returns-then-is_empty-clause-stamp : goal.returns-then-is_empty-clause-stamp
unfolding state_of
returns-then-is_empty-clause-stamp c = ap (λ (s : Kernel). s.stamp) c.forget_answer.ensures.state
