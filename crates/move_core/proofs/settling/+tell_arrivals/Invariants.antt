-- each call has one fewer
use Rattle.std.proofs.Common.{length}
use Rattle.move_core.proofs.settling.+tell_arrivals.Given as goal

abbrev pub decreases-tell_arrivals : goal.decreases-tell_arrivals
decreases-tell_arrivals l = length l.values.now
