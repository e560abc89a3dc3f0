use Rattle.std.proofs.Common.{length}
use Rattle.kernel_worker.proofs.meeting.+meet_each.Given as goal

abbrev pub decreases-meet_each : goal.decreases-meet_each
decreases-meet_each g l = length l.others.now
