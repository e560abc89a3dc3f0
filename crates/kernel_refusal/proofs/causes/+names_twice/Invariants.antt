-- each call has one end fewer
use Rattle.std.proofs.Common.{length}
use Rattle.kernel_refusal.proofs.causes.+names_twice.Given as goal

abbrev pub decreases-names_twice : goal.decreases-names_twice
decreases-names_twice l = length l.ends.now
