use Rattle.std.proofs.Common.{All, take}
use Rattle.charlotte_calls.specs.Ranges.{IsEnd}
use Rattle.kernel_entries.proofs.ranges.tell_each_end.Given as goal

abbrev pub invariant-loop-end : goal.invariant-loop-end
invariant-loop-end l = All IsEnd (take l.end-index l.ends)
