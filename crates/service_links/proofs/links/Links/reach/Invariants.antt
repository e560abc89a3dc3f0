-- what was seen is seen, and each turn comes one row nearer
use Rattle.std.proofs.Common.{◌≡◌, ◌+◌, ◌-◌, length}
use Rattle.service_step.specs.Ends.{unmade}
use Rattle.service_links.specs.Links.{ends_of}
use Rattle.service_links.proofs.links.Links.reach.Given as goal

abbrev pub invariant-loop-alloc : goal.invariant-loop-alloc
invariant-loop-alloc l = record { same : ends_of l.self-inside.rows.items ≡ ends_of l.fn.self; none : l.self-inside.no_end ≡ unmade }

abbrev pub decreases-loop-alloc : goal.decreases-loop-alloc
decreases-loop-alloc l = l.maker + 1 - length l.self-inside.rows.items
