-- each call has one end fewer
use Rattle.std.proofs.Common.{length}
use Rattle.service_links.proofs.links.Links.+place_each.Given as goal

abbrev pub decreases-place_each : goal.decreases-place_each
decreases-place_each l = length l.ends.now
