use Rattle.kernel_net.specs.Grid.{putters_of, getters_of}
use Rattle.kernel_net.proofs.Grid.{IsTaking}
use Rattle.kernel_net.proofs.net.ports_of.Given as goal

abbrev pub invariant-loop-kernel : goal.invariant-loop-kernel
invariant-loop-kernel l = IsTaking l.kernel l.ports.items (putters_of l.initial.outs.items) (putters_of l.outs.items) (getters_of l.initial.intos.items) (getters_of l.intos.items)
