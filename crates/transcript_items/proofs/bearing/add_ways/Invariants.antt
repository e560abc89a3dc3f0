use Rattle.std.proofs.Common.{◌≡◌, ◌++◌, map, take}
use Rattle.transcript_items.specs.Bearing.{of_way}
use Rattle.transcript_items.proofs.bearing.add_ways.Given as goal

abbrev pub invariant-loop-way : goal.invariant-loop-way
invariant-loop-way l = l.items.items ≡ l.fn.items.items ++ map of_way (take l.way-index l.ways)
