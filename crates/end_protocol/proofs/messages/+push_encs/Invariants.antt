use Rattle.std.proofs.Common.{length}
use Rattle.end_protocol.proofs.messages.+push_encs.Given as goal

abbrev pub decreases-push_encs : goal.decreases-push_encs
decreases-push_encs l = length l.ends.now
