-- each call has one fewer
use Rattle.std.proofs.Common.{length}
use Rattle.kernel_event.proofs.carried.+add_arriving.Given as goal

abbrev pub decreases-add_arriving : goal.decreases-add_arriving
decreases-add_arriving l = length l.moving.now
