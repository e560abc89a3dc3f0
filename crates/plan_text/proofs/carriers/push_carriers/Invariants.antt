use Rattle.std.proofs.Common.{◌≡◌, ◌++◌, map, take}
use Rattle.plan_text.specs.Reading.{carrier}
use Rattle.plan_text.proofs.carriers.push_carriers.Given as goal

abbrev pub invariant-loop-hosting : goal.invariant-loop-hosting
invariant-loop-hosting l = l.wires.items ≡ l.fn.wires.items ++ map carrier (take l.hosting-index l.hosts)
