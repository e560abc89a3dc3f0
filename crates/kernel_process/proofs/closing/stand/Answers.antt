-- The process runs again, and is the last that is answered.
use Rattle.std.proofs.Common.{refl}
use Rattle.kernel_process.proofs.Closes.{stands-by}
use Rattle.kernel_process.specs.Parts.{with_parts}
use Rattle.kernel_process.proofs.closing.stand.Goals as goal

pub returns-clause-part : goal.returns-clause-part
returns-clause-part c =
    λ s t. stands-by (with_parts t c.args.processes.now s) (with_parts t c.run_again.new.processes s) c.args.effect.now _ c.args.p c.args.answer (c.run_again.ensures.part t s) refl c.push_reserved.ensures.items refl
