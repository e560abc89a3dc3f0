use Rattle.kernel_net.specs.Grid.{IsGrid, putters_of, getters_of}
use Rattle.kernel_net.proofs.net.Net.make.Given as goal

abbrev pub invariant-loop : goal.invariant-loop
invariant-loop l = IsGrid l.capacity l.kernels l.counter (putters_of l.outs.items) (getters_of l.intos.items)
