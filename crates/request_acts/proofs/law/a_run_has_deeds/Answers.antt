use Rattle.request_acts.proofs.Acted.{acted}
use Rattle.request_acts.proofs.law.a_run_has_deeds.Goals as goal

pub returns : goal.returns
returns c s es programs merged steps recorded replayed = acted s programs merged steps replayed es recorded
