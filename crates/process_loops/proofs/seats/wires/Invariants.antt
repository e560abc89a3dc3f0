use Rattle.std.proofs.Common.{◌≡◌, length}
use Rattle.process_loops.proofs.seats.wires.Given as goal

-- an end on either side for each link so far
abbrev pub invariant-loop : goal.invariant-loop
invariant-loop l = (length l.near.items ≡ l.counter) × (length l.far.items ≡ l.counter)
