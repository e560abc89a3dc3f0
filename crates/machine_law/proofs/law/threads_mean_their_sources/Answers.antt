use Rattle.machine_law.proofs.Sourced.{law}
use Rattle.machine_law.proofs.law.threads_mean_their_sources.Goals as goal

pub returns : goal.returns
returns c = law
