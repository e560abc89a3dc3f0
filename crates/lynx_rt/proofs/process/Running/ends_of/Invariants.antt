use Rattle.std.proofs.Common.{◌≡◌, take}
use Rattle.process_run.specs.Ends.{ends_at}
use Rattle.lynx_rt.proofs.process.Running.ends_of.Given as goal

-- the ends so far
abbrev pub invariant-loop-number : goal.invariant-loop-number
invariant-loop-number l = l.ends.items ≡ ends_at (take l.number-index l.links) l.self
