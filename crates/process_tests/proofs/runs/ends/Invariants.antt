use Rattle.std.proofs.Common.{◌≡◌, length}
use Rattle.process_tests.proofs.runs.ends.Given as goal

-- an end for each number so far
abbrev pub invariant-loop-number : goal.invariant-loop-number
invariant-loop-number l = length l.ends.items ≡ l.number
