use Rattle.std.proofs.Common.{refl}
use Rattle.kernel_start.proofs.Wired.{HasWired-none, zeros}
use Rattle.kernel_start.proofs.start.Wiring.new.Goals as goal

pub returns-clause-nothing : goal.returns-clause-nothing
returns-clause-nothing c = λ s. HasWired-none s _ c.start.ensures.empty refl (λ q below. zeros 8 q)
