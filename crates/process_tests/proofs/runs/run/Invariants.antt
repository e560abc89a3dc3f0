use Rattle.charlotte_calls.specs.Program.{MayFollow}
use Rattle.process_tests.proofs.runs.run.Given as goal

-- what the process is given next may follow its last step
abbrev pub invariant-loop : goal.invariant-loop
invariant-loop l = MayFollow l.process.last l.given
