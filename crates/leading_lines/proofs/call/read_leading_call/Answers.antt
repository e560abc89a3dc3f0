use Rattle.std.proofs.lemmas.Option.{IfSome_then}
use Rattle.leading_lines.proofs.call.read_leading_call.Goals as goal

pub returns-in-114-clause-fits : goal.returns-in-114-clause-fits
returns-in-114-clause-fits c = IfSome_then c.read_receive.result c.read_receive.ensures.fits (λ x fits. fits c.args.version)

pub returns-in-100-clause-fits : goal.returns-in-100-clause-fits
returns-in-100-clause-fits c = IfSome_then c.read_destroy.result c.read_destroy.ensures.fits (λ x fits. fits c.args.version)
