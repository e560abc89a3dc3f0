use Rattle.request_acts.proofs.Acted.{one-deeds}
use Rattle.request_acts.proofs.law.deeds_are_determined.Goals as goal

pub returns : goal.returns
returns c s programs merged steps a b = one-deeds s programs merged steps a b
