use Rattle.std.proofs.Common.{◌≡◌, length}
use Rattle.machine_tests.proofs.playing.links.Given as goal

-- a link for each number so far
abbrev pub invariant-loop-number : goal.invariant-loop-number
invariant-loop-number l = length l.links.items ≡ l.number
