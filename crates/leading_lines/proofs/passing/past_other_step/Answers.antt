use Rattle.leading_lines.proofs.passing.past_other_step.Goals as goal

pub returns : goal.returns
returns c = record { value = c.in_ok-step.step; spelled = c.in_ok-step.ensures.spelled; fits = (c.in_ok-step.ensures.range, c.in_ok-step.ensures.shown c.args.version) }
