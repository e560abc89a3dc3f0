-- each call has one fewer
use Rattle.std.proofs.Common.{length}
use Rattle.kernel_event.proofs.carried.+add_passing.Given as goal

abbrev pub decreases-add_passing : goal.decreases-add_passing
decreases-add_passing l = length l.moving.now
