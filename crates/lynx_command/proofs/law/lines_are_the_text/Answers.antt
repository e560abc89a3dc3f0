use Rattle.lynx_command.proofs.FirstLines.{lines-joined}
use Rattle.lynx_command.proofs.law.lines_are_the_text.Goals as goal

pub returns : goal.returns
returns c = lines-joined
