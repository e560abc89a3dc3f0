use Rattle.std.proofs.Common.{◌≡◌, drop}
use Rattle.transcript_items.specs.Bearing.{add_each}
use Rattle.transcript_items.proofs.bearing.add_each.Given as goal

abbrev pub invariant-loop-item : goal.invariant-loop-item
invariant-loop-item l = add_each (drop l.item-index l.others) l.items.items ≡ add_each l.others l.fn.items.items
