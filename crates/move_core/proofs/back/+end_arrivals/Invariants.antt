-- each call has one fewer
use Rattle.std.proofs.Common.{length}
use Rattle.move_core.proofs.back.+end_arrivals.Given as goal

abbrev pub decreases-end_arrivals : goal.decreases-end_arrivals
decreases-end_arrivals l = length l.moving
