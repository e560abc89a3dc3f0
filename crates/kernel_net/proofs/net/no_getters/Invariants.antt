use Rattle.std.proofs.Common.{ℕ, []}
use Rattle.kernel_net.specs.Grid.{IsGrid, getters_of}
use Rattle.kernel_net.proofs.net.no_getters.Given as goal

abbrev pub invariant-loop : goal.invariant-loop
invariant-loop l = (capacity : ℕ) → IsGrid capacity l.counter 0 [] (getters_of l.intos.items)
