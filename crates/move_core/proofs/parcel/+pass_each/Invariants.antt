-- each call has one fewer
use Rattle.std.proofs.Common.{length}
use Rattle.move_core.proofs.parcel.+pass_each.Given as goal

abbrev pub decreases-pass_each : goal.decreases-pass_each
decreases-pass_each l = length l.moving
