-- each call has one end fewer
use Rattle.std.proofs.Common.{length}
use Rattle.service_processes.proofs.processes.Processes.+learn_each.Given as goal

abbrev pub decreases-learn_each : goal.decreases-learn_each
decreases-learn_each l = length l.ends.now
