use Rattle.std.proofs.Common.{eqb, ◌∙◌}
use Rattle.charlotte_text.proofs.Parts.{cut_none, cut_some}
use Rattle.lynx_plan.proofs.read.first_line.Goals as goal

pub returns-in-None : goal.returns-in-None
returns-in-None c = cut_none (λ b. eqb b 10) c.args.text.now (c.line_feed_at.ensures.exact ∙ c.in-None.is)

pub returns-in-Some : goal.returns-in-Some
returns-in-Some c = cut_some (λ b. eqb b 10) c.args.text.now c.in-Some.at 0 (c.line_feed_at.ensures.exact ∙ c.in-Some.is)
