use Rattle.service_streams.proofs.Streams.{links_fifo}
use Rattle.service_streams.proofs.law.links_are_fifo.Goals as goal

pub returns : goal.returns
returns c = links_fifo
