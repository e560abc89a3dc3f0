use Rattle.std.proofs.Common.{length}
use Rattle.lynx_packets.specs.Reading.{values_at}
use Rattle.lynx_packets.proofs.Steps.{IsLeft}
use Rattle.lynx_packets.proofs.values.results.Given as goal

abbrev pub invariant-loop-rest : goal.invariant-loop-rest
invariant-loop-rest l = IsLeft l.values.items l.links l.rest (values_at (length l.fn.bytes) l.fn.links l.fn.bytes)

abbrev pub decreases-loop-rest : goal.decreases-loop-rest
decreases-loop-rest l = length l.rest
