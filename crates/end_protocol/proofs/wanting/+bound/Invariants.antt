use Rattle.std.proofs.Common.{length}
use Rattle.end_protocol.proofs.wanting.+bound.Given as goal

abbrev pub decreases-bound : goal.decreases-bound
decreases-bound l = length l.bindings.now
