use Rattle.std.proofs.Common.{length}
use Rattle.end_protocol.proofs.reading.+have_types.Given as goal

abbrev pub decreases-have_types : goal.decreases-have_types
decreases-have_types l = length l.values.now
