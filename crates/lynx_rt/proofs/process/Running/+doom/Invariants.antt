use Rattle.std.proofs.Common.{length}
use Rattle.lynx_rt.proofs.process.Running.+doom.Given as goal

abbrev pub decreases-doom : goal.decreases-doom
decreases-doom l = length l.ends.now
