use Rattle.program_round.specs.Doings.{NoneCanGoWithin}
use Rattle.program_round.proofs.programs.Programs.ready_within.Given as goal

abbrev pub invariant-loop-place : goal.invariant-loop-place
invariant-loop-place g l = NoneCanGoWithin l.from l.place l.self.doing
