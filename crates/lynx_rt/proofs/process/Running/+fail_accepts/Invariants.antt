use Rattle.std.proofs.Common.{length}
use Rattle.lynx_rt.proofs.process.Running.+fail_accepts.Given as goal

abbrev pub decreases-fail_accepts : goal.decreases-fail_accepts
decreases-fail_accepts l = length l.accepts.now
