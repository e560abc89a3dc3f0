use Rattle.std.proofs.Common.{◌≡◌, [], replicate}
use Rattle.process_ends.proofs.opened.Opened.new.Given as goal

abbrev pub invariant-loop : goal.invariant-loop
invariant-loop l = l.threads.items ≡ replicate l.counter []
