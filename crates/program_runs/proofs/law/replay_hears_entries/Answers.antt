use Rattle.program_runs.proofs.Replay.{replays-hears}
use Rattle.program_runs.proofs.law.replay_hears_entries.Goals as goal

pub returns : goal.returns
returns g c = replays-hears g.P.Program.step
