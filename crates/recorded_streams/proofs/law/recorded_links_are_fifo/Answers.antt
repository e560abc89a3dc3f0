use Rattle.recorded_streams.proofs.Recorded.{recorded_fifo}
use Rattle.recorded_streams.proofs.law.recorded_links_are_fifo.Goals as goal

pub returns : goal.returns
returns c = recorded_fifo
