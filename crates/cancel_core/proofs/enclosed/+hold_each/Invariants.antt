-- each call has one end fewer
use Rattle.std.proofs.Common.{length}
use Rattle.cancel_core.proofs.enclosed.+hold_each.Given as goal

abbrev pub decreases-hold_each : goal.decreases-hold_each
decreases-hold_each l = length l.ends.now
