use Rattle.leading_lines.proofs.Leading.{call_fits_there, call_then}
use Rattle.leading_lines.proofs.call.read_any.Goals as goal

pub returns-in-Ok-clause-spelled : goal.returns-in-Ok-clause-spelled
returns-in-Ok-clause-spelled c = call_then c.args.version c.args.text.now c.split_at.result.0.now c.split_at.result.1.now c.read_call_into.new.call c.split_at.ensures.by_index.0 c.in-Ok.ensures

pub returns-in-Ok-clause-fits : goal.returns-in-Ok-clause-fits
returns-in-Ok-clause-fits c = call_fits_there c.args.version c.split_at.result.0.now c.read_call_into.new.call c.in-Ok.ensures
