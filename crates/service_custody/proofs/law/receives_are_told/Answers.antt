use Rattle.service_custody.proofs.Receiving.{receives-told}
use Rattle.service_custody.proofs.law.receives_are_told.Goals as goal

pub returns : goal.returns
returns c = receives-told
