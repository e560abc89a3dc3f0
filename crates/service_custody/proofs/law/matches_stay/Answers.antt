use Rattle.service_custody.proofs.Matching.{matched-after}
use Rattle.service_custody.proofs.law.matches_stay.Goals as goal

pub returns : goal.returns
returns c = matched-after
