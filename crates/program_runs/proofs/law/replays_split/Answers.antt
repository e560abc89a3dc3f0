use Rattle.program_runs.proofs.Replay.{replays-split}
use Rattle.program_runs.proofs.law.replays_split.Goals as goal

pub returns : goal.returns
returns g c = replays-split g.P.Program.step
