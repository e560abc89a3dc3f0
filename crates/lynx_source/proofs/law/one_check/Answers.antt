use Rattle.lynx_source.proofs.Readings.{one_check}
use Rattle.lynx_source.proofs.law.one_check.Goals as goal

pub returns : goal.returns
returns c = one_check
