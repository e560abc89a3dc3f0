use Rattle.std.proofs.Common.{ap}
use Rattle.machine_turns.specs.Turns.{Beat}
use Rattle.machine_law.specs.Histories.{turns_of}
use Rattle.machine_law.proofs.law.runs_are_moves.Goals as goal

pub returns : goal.returns
returns c = λ p fuel left t now stop is. ap (λ (b : Beat). turns_of b t) is
