use Rattle.leading_lines.proofs.Leading.{asked_then}
use Rattle.leading_lines.proofs.line.leading_asked.Goals as goal

pub returns-clause-spelled : goal.returns-clause-spelled
returns-clause-spelled c = asked_then c.args.ahead c.read_leading_call.new.call c.args.text.now c.in_ok-rest.rest.now c.in_ok-rest.ensures.spelled
