use Rattle.transcript_expected.proofs.Order.{of_line, stands}
use Rattle.transcript_expected.proofs.law.forms_that_stand.Goals as goal

pub returns : goal.returns
returns c = λ place f. (stands place f, of_line place f)
