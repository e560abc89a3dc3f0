use Rattle.std.proofs.Common.{◌≡◌}
use Rattle.process_loops.proofs.seats.go_on.Given as goal

-- each seat has the last step of its program
abbrev pub invariant-loop : goal.invariant-loop
invariant-loop l = (l.one.program.last ≡ l.one.last) × (l.other.program.last ≡ l.other.last)
