use Rattle.lynx_source.proofs.Readings.{one_reading}
use Rattle.lynx_source.proofs.law.one_reading.Goals as goal

pub returns : goal.returns
returns c = one_reading
