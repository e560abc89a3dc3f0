use Rattle.leading_lines.proofs.line.leading_service.Goals as goal

pub returns-clause-fits : goal.returns-clause-fits
returns-clause-fits c = (c.in_ok-step.ensures.range, c.in_ok-step.ensures.shown c.args.version)
