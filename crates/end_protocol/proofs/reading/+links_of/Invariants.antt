use Rattle.std.proofs.Common.{length}
use Rattle.end_protocol.proofs.reading.+links_of.Given as goal

abbrev pub decreases-links_of : goal.decreases-links_of
decreases-links_of l = length l.values.now
