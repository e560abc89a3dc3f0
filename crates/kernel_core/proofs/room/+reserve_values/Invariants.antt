use Rattle.std.proofs.Common.{length}
use Rattle.kernel_core.proofs.room.+reserve_values.Given as goal

abbrev pub decreases-reserve_values : goal.decreases-reserve_values
decreases-reserve_values l = length l.values.now
