use Rattle.std.proofs.Common.{eqb, sym, ◌∙◌}
use Rattle.charlotte_text.proofs.Parts.{cut_none, cut_some}
use Rattle.charlotte_text.proofs.part.cut.Goals as goal

pub returns-in-None : goal.returns-in-None
returns-in-None c = cut_none (λ b. eqb b c.args.separator) c.args.text.now (sym c.first_at.ensures.exact ∙ c.in-None.is)

pub returns-in-Some : goal.returns-in-Some
returns-in-Some c = cut_some (λ b. eqb b c.args.separator) c.args.text.now c.in-Some.at 0 (sym c.first_at.ensures.exact ∙ c.in-Some.is)
