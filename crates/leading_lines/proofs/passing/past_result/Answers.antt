use Rattle.leading_lines.proofs.Past.{sent_result}
use Rattle.leading_lines.proofs.passing.past_result.Goals as goal

pub returns-in-Some : goal.returns-in-Some
returns-in-Some c = sent_result c.args.version c.args.text.now c.in-Some.rest.now c.in-Some.ensures
