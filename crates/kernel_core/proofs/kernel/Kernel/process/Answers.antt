-- What stands at a process's number is that process.
use Rattle.std.proofs.Common.{ap, sym, ◌∙◌}
use Rattle.kernel_process.specs.Parts.{process_state}
use Rattle.kernel_core.proofs.Kernels.{state_of-at}
use Rattle.kernel_core.proofs.kernel.Kernel.process.Goals as goal

pub returns : goal.returns
returns c =
    ap process_state (c.at.ensures c.at.result.now)
    ∙ sym (state_of-at c.args.self.now c.self.inside.state.processes c.at.result.now c.from.result c.args.p (ap (λ v. v.processes) c.self.view_is) c.from.ensures c.requires)
