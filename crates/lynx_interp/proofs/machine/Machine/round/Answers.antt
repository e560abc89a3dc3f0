use Rattle.lynx_interp.proofs.Rounds.{stopped_round}
use Rattle.lynx_interp.proofs.machine.Machine.round.Goals as goal

pub returns-in-Some : goal.returns-in-Some
returns-in-Some c = stopped_round c.args.fuel c.args.self.now c.in-Some.stop c.requires c.in-Some.ensures
