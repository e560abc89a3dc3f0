use Rattle.lynx_source.proofs.Readings.{printed_is_read}
use Rattle.lynx_source.proofs.law.printed_is_read.Goals as goal

pub returns : goal.returns
returns c = printed_is_read
