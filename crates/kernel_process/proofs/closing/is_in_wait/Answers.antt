-- The phase is that of the process.
use Rattle.std.proofs.Common.{◌<◌, length, subst, sym, ◌∙◌, ap}
use Rattle.kernel_step.specs.Kernel.{is_waiting}
use Rattle.kernel_process.proofs.OneProcess.{process_of-at}
use Rattle.kernel_process.specs.Parts.{process_state}
use Rattle.kernel_process.proofs.closing.is_in_wait.Goals as goal

pub returns : goal.returns
returns c = λ t s.
    let below : c.from.result < length c.args.processes.now = subst (λ n. n < length c.args.processes.now) (sym c.from.ensures) c.requires in
    c.is_waiting.ensures
    ∙ ap (λ x. is_waiting x.phase) (ap process_state (c.at.ensures c.at.result.now) ∙ sym (process_of-at t c.args.processes.now c.at.result.now s c.from.result c.args.p c.from.ensures below))
