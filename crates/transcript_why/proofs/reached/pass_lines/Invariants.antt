use Rattle.std.proofs.Common.{◌≡◌}
use Rattle.transcript_why.specs.Before.{first_lines}
use Rattle.transcript_why.proofs.reached.pass_lines.Given as goal

abbrev pub invariant-loop : goal.invariant-loop
invariant-loop l = l.reader ≡ (first_lines l.counter l.fn.reader).1
