use Rattle.kernel_net.specs.Grid.{IsRow, getters_of}
use Rattle.kernel_net.proofs.net.rings_to_each.Given as goal

abbrev pub invariant-loop-to : goal.invariant-loop-to
invariant-loop-to l = IsRow l.capacity l.to l.row.items (getters_of l.initial.intos.items) (getters_of l.intos.items)
