use Rattle.std.proofs.Common.{map}
use Rattle.node_start.proofs.Spreading.{AreSpread}
use Rattle.node_start.proofs.homes.by_home.Given as goal

abbrev pub invariant-loop-program : goal.invariant-loop-program
invariant-loop-program g l = AreSpread l.fn.setting l.fn.programs.items l.number l.program-iterator.rest.items (map (λ list. list.items) l.lists.items)
