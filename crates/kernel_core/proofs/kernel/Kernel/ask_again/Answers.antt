-- The answer that stood goes after the call, where the call brought none.
use Rattle.std.proofs.Common.{sym}
use Rattle.kernel_core.proofs.Happened.{both_ok}
use Rattle.kernel_core.proofs.Naming.{goes-still}
use Rattle.kernel_core.proofs.Overwritten.{asked-over}
use Rattle.kernel_core.specs.State.{state_of}
use Rattle.kernel_core.proofs.kernel.Kernel.ask_again.Goals as goal

pub returns-clause-step : goal.returns-clause-step
returns-clause-step c =
    both_ok c.step-called.result
    (λ effect called left. (called.0, called.1, asked-over c.args.request.now.p (state_of c.args.self.now) called.0 c.args.request.now.call (state_of c.step-called.new.self) _ effect called.2 left))
    c.step-called.ensures.step c.let_go.ensures.state

pub returns-clause-there : goal.returns-clause-there
returns-clause-there c = goes-still c.step-called.new.self.kernels c.let_go.new.self.kernels c.step-called.result (sym c.let_go.ensures.kernels) c.step-called.ensures.there
