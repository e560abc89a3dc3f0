-- The process has exited, and is the last that is answered.
use Rattle.std.proofs.Common.{refl}
use Rattle.kernel_process.proofs.Closes.{exits-by}
use Rattle.kernel_process.specs.Parts.{with_parts}
use Rattle.kernel_process.proofs.closing.exit.Goals as goal

pub returns-clause-part : goal.returns-clause-part
returns-clause-part c =
    λ s t. exits-by (with_parts t c.args.processes.now s) (with_parts t c.leave.new.processes s) c.args.effect.now _ c.args.p (c.leave.ensures.part t s) refl c.push_reserved.ensures.items refl
