-- It ends behind its line feed, or with the text.
use Rattle.std.proofs.Common.{sym, ◌∙◌}
use Rattle.lynx_command.proofs.FirstLines.{line_up_to, last_line}
use Rattle.lynx_command.proofs.held_text.end_of_line.Goals as goal

pub returns-in-Some-clause-line : goal.returns-in-Some-clause-line
returns-in-Some-clause-line c = line_up_to c.args.text.now c.in-Some.at (sym c.first_line_feed.ensures.exact ∙ c.in-Some.is)

pub returns-in-None-clause-line : goal.returns-in-None-clause-line
returns-in-None-clause-line c = last_line c.args.text.now c.requires (sym c.first_line_feed.ensures.exact ∙ c.in-None.is)
