use Rattle.program_runs.proofs.Replay.{replays-chain}
use Rattle.program_runs.proofs.law.replays_chain.Goals as goal

pub returns : goal.returns
returns g c = replays-chain g.P.Program.step
