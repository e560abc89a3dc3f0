use Rattle.std.specs.List.{concat}
use Rattle.plan_run.specs.Run.{last_of}
use Rattle.transcript_audit.proofs.Told.{record-is-audited}
use Rattle.lynx_run.proofs.Ran.{plan-transcript}
use Rattle.lynx_run.proofs.law.ran_is_audited.Goals as goal

pub returns : goal.returns
returns c = λ x turns output is. (last_of is.ran.end, record-is-audited (concat output.lines) (last_of is.ran.end) (plan-transcript x turns output is))
