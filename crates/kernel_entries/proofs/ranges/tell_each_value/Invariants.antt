use Rattle.std.proofs.Common.{All, take}
use Rattle.charlotte_packets.specs.Ranges.{IsValueInRange}
use Rattle.kernel_entries.proofs.ranges.tell_each_value.Given as goal

abbrev pub invariant-loop-value : goal.invariant-loop-value
invariant-loop-value l = All IsValueInRange (take l.value-index l.values)
