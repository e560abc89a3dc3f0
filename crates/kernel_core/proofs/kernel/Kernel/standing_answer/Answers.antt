-- What is lent is the answer of that process.
use Rattle.std.proofs.Common.{ap, ◌∙◌}
use Rattle.kernel_step.specs.Kernel.{Process}
use Rattle.kernel_core.proofs.kernel.Kernel.standing_answer.Goals as goal

pub returns : goal.returns
returns c = c.as_ref.ensures.value ∙ ap (λ (x : Process). x.answer) c.process.ensures
