-- each call has one end fewer
use Rattle.std.proofs.Common.{length}
use Rattle.kernel_event.proofs.acts.+enclose_each.Given as goal

abbrev pub decreases-enclose_each : goal.decreases-enclose_each
decreases-enclose_each l = length l.ends.now
