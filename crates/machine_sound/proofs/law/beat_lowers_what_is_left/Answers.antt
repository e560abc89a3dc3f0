use Rattle.machine_sound.proofs.Ending.{beat_lowers}
use Rattle.machine_sound.proofs.law.beat_lowers_what_is_left.Goals as goal

pub returns : goal.returns
returns c = beat_lowers
