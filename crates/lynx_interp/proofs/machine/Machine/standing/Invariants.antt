use Rattle.std.proofs.Common.{◌≡◌, take}
use Rattle.lynx_interp.specs.Machines.{how_many}
use Rattle.lynx_interp.proofs.machine.Machine.standing.Given as goal

abbrev pub invariant-loop-slot : goal.invariant-loop-slot
invariant-loop-slot l = l.standing ≡ how_many (take l.slot-index l.slot-items)
