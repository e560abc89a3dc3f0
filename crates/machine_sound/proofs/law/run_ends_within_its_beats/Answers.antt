use Rattle.machine_sound.proofs.Ending.{run_ends}
use Rattle.machine_sound.proofs.law.run_ends_within_its_beats.Goals as goal

pub returns : goal.returns
returns c = run_ends
