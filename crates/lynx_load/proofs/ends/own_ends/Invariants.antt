use Rattle.std.proofs.Common.{◌≡◌, take}
use Rattle.std.specs.List.{flat_map}
use Rattle.lynx_load.specs.Ends.{own_of}
use Rattle.lynx_load.proofs.ends.own_ends.Given as goal

abbrev pub invariant-loop-link : goal.invariant-loop-link
invariant-loop-link l = l.ends.items ≡ flat_map (own_of l.process) (take l.link-index l.links)
