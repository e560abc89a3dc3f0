use Rattle.std.specs.List.{concat}
use Rattle.transcript_audit.proofs.Told.{record-is-audited}
use Rattle.lynx_run.proofs.Driven.{driven-transcript}
use Rattle.lynx_run.proofs.law.driven_is_audited.Goals as goal

pub returns : goal.returns
returns c = λ bytes lines is. (is.last, record-is-audited (concat lines) is.last (driven-transcript bytes lines is))
