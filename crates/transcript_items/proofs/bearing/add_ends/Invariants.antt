use Rattle.std.proofs.Common.{◌≡◌, ◌++◌, take}
use Rattle.std.specs.List.{flat_map}
use Rattle.transcript_items.specs.Bearing.{of_end}
use Rattle.transcript_items.proofs.bearing.add_ends.Given as goal

abbrev pub invariant-loop-end : goal.invariant-loop-end
invariant-loop-end l = l.items.items ≡ l.fn.items.items ++ flat_map (of_end l.latest) (take l.end-index l.ends)
