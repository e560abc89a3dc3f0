use Rattle.request_law.proofs.Readable.{run_readable}
use Rattle.request_law.proofs.law.messages_can_be_read.Goals as goal

pub returns : goal.returns
returns c = run_readable
