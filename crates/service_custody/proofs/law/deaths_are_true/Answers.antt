use Rattle.service_custody.proofs.Deaths.{deaths-true}
use Rattle.service_custody.proofs.law.deaths_are_true.Goals as goal

pub returns : goal.returns
returns c = deaths-true
