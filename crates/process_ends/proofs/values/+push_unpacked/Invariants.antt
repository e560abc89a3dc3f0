use Rattle.std.proofs.Common.{length}
use Rattle.process_ends.proofs.values.+push_unpacked.Given as goal

abbrev pub decreases-push_unpacked : goal.decreases-push_unpacked
decreases-push_unpacked l = length l.values.now
