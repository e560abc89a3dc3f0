use Rattle.lynx_rt.proofs.Stepping.{IsSoFar}
use Rattle.lynx_rt.proofs.process.Running.slice.Given as goal

abbrev pub invariant-rounds : goal.invariant-rounds
invariant-rounds l = IsSoFar l.initial.self l.actions l.fuel l.self

abbrev pub decreases-rounds : goal.decreases-rounds
decreases-rounds l = l.actions
