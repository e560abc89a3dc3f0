-- each call has one end fewer
use Rattle.std.proofs.Common.{length}
use Rattle.cancel_core.proofs.enclosed.+leave_each.Given as goal

abbrev pub decreases-leave_each : goal.decreases-leave_each
decreases-leave_each l = length l.ends.now
