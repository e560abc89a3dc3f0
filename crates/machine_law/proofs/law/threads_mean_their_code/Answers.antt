use Rattle.machine_law.proofs.Whole.{law}
use Rattle.machine_law.proofs.law.threads_mean_their_code.Goals as goal

pub returns : goal.returns
returns c = law
