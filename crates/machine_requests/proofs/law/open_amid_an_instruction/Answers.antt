use Rattle.machine_requests.proofs.Amid.{open_by_meaning}
use Rattle.machine_requests.proofs.law.open_amid_an_instruction.Goals as goal

pub returns : goal.returns
returns c = open_by_meaning
