-- each call has one fewer
use Rattle.std.proofs.Common.{length}
use Rattle.move_core.proofs.settling.+settle_each.Given as goal

abbrev pub decreases-settle_each : goal.decreases-settle_each
decreases-settle_each l = length l.moving.now
