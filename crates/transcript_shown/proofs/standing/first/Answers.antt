use Rattle.std.proofs.Common.{sym}
use Rattle.transcript_shown.proofs.Lines.{first_ended}
use Rattle.transcript_shown.proofs.standing.first.Goals as goal

pub returns-in-Some-others : goal.returns-in-Some-others
returns-in-Some-others c = rw c.in-Some.is (sym (first_ended c.cut.result.0.now c.in-Some.rest.now c.in-Some-others.field-0.now (rw c.in-Some-others.is at c.cut.ensures)))
