use Rattle.leading_lines.proofs.call.read_send.Goals as goal

pub returns-in-Some-clause-fits : goal.returns-in-Some-clause-fits
returns-in-Some-clause-fits c = c.in-Some.ensures.fits c.args.version
