use Rattle.machine_sound.specs.Weights.{weight}
use Rattle.lynx_interp.proofs.Rounds.{IsSoFar}
use Rattle.lynx_interp.proofs.machine.Machine.run.Given as goal

-- so many beats from the start lead here
abbrev pub invariant-rounds : goal.invariant-rounds
invariant-rounds l = IsSoFar l.fuel l.fn.self l.left l.self

abbrev pub decreases-rounds : goal.decreases-rounds
decreases-rounds l = weight l.left l.self.turns
