use Rattle.trace_law.proofs.Run.{bare-after}
use Rattle.trace_law.proofs.law.no_trace_is_left.Goals as goal

pub returns : goal.returns
returns c = bare-after
