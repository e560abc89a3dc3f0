use Rattle.leading_lines.proofs.Past.{no_bytes}
use Rattle.leading_lines.proofs.enclosed.past_bytes.Goals as goal

pub returns-in-Some : goal.returns-in-Some
returns-in-Some c = no_bytes c.args.text.now c.in-Some.rest.now c.in-Some.ensures
