use Rattle.std.proofs.Common.{length}
use Rattle.lynx_load.proofs.params.+unfit_line.Given as goal

abbrev pub decreases-unfit_line : goal.decreases-unfit_line
decreases-unfit_line l = length l.codes.now
