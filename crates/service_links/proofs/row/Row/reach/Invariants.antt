-- what was seen is seen, and each turn comes one link nearer
use Rattle.std.proofs.Common.{◌≡◌, ◌+◌, ◌-◌, length}
use Rattle.service_links.specs.Links.{link_at}
use Rattle.service_links.proofs.row.Row.reach.Given as goal

abbrev pub invariant-loop-self : goal.invariant-loop-self
invariant-loop-self l = link_at l.self-inside.links.items ≡ link_at l.fn.self

abbrev pub decreases-loop-self : goal.decreases-loop-self
decreases-loop-self l = l.index + 1 - length l.self-inside.links.items
