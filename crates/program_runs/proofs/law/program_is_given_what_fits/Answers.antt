use Rattle.program_runs.proofs.Replay.{given-fits}
use Rattle.program_runs.proofs.law.program_is_given_what_fits.Goals as goal

pub returns : goal.returns
returns c = given-fits
