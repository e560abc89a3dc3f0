-- each call has one fewer
use Rattle.std.proofs.Common.{length}
use Rattle.move_core.proofs.ending.+end_each.Given as goal

abbrev pub decreases-end_each : goal.decreases-end_each
decreases-end_each l = length l.ends.now
