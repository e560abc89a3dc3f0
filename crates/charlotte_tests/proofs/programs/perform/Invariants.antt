-- what was done, followed by what is done from here on, is all that is done
use Rattle.std.proofs.Common.{◌≡◌, ◌++◌, drop}
use Rattle.charlotte_calls.specs.Program.{steps, state_after, MayBeGiven}
use Rattle.charlotte_tests.proofs.programs.perform.Given as goal

abbrev pub invariant-loop-answer : goal.invariant-loop-answer
invariant-loop-answer g l =
    let p = g.P.Program in
    record {
      done : l.done.items ++ steps p.step (p.state l.program) (drop l.answer-index l.given) ≡ steps p.step (p.state l.fn.program) l.given;
      state : state_after p.step (p.state l.program) (drop l.answer-index l.given) ≡ state_after p.step (p.state l.fn.program) l.given;
      may : MayBeGiven p.step (p.state l.program) (p.last l.program) (drop l.answer-index l.given);
    }
