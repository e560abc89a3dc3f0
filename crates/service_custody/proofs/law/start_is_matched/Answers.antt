use Rattle.service_custody.proofs.Matching.{start-matched}
use Rattle.service_custody.proofs.law.start_is_matched.Goals as goal

pub returns : goal.returns
returns c = start-matched
