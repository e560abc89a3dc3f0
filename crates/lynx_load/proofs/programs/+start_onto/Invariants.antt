use Rattle.std.proofs.Common.{length}
use Rattle.lynx_load.proofs.programs.+start_onto.Given as goal

abbrev pub decreases-start_onto : goal.decreases-start_onto
decreases-start_onto l = length l.codes.now.items
