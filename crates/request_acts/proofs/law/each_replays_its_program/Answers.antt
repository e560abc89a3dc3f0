use Rattle.request_acts.proofs.Acted.{is-replayed}
use Rattle.request_acts.proofs.law.each_replays_its_program.Goals as goal

pub returns : goal.returns
returns c s programs merged steps acted = is-replayed s programs merged steps acted
