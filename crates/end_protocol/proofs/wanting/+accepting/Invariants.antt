use Rattle.std.proofs.Common.{length}
use Rattle.end_protocol.proofs.wanting.+accepting.Given as goal

abbrev pub decreases-accepting : goal.decreases-accepting
decreases-accepting l = length l.accepts.now
