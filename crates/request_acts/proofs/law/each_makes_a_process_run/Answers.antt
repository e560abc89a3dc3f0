use Rattle.request_acts.proofs.Own.{run-by}
use Rattle.request_acts.proofs.law.each_makes_a_process_run.Goals as goal

pub returns : goal.returns
returns c s programs merged steps a i within = run-by s programs merged steps a i within
