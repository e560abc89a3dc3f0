-- those that were seen are destroyed
use Rattle.std.proofs.Common.{◌≡◌, take}
use Rattle.service_step.specs.Ends.{destroys_each}
use Rattle.service_links.specs.Links.{ends_of}
use Rattle.service_links.proofs.links.Links.destroy_each.Given as goal

abbrev pub invariant-loop-e : goal.invariant-loop-e
invariant-loop-e l = ends_of l.self ≡ destroys_each l.p (take l.e-index l.mine) (ends_of l.initial.self)
