use Rattle.std.proofs.Common.{◌≡◌, [], ◌∷◌, replicate, Some, None}
use Rattle.machine_turns.specs.Threads.{begun}
use Rattle.lynx_interp.proofs.machine.body_alone.Given as goal

abbrev pub invariant-loop : goal.invariant-loop
invariant-loop l = l.threads.items ≡ Some (begun [] 0 []) ∷ replicate l.counter None
