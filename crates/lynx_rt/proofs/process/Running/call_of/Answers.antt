use Rattle.lynx_rt.proofs.Stepping.{asks_held, asks_none}
use Rattle.lynx_rt.proofs.process.Running.call_of.Goals as goal

pub returns : goal.returns
returns c = asks_held c.args.number c.in-Some.on c.args.due c.args.self.now _ _ c.in-Some.ensures c.call_on.ensures

pub returns-in_default : goal.returns-in_default
returns-in_default c = asks_none c.args.number c.args.due c.args.self.now c.in_default.ensures
