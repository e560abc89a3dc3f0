use Rattle.end_protocol.specs.Going.{cancel_late}
use Rattle.lynx_rt.proofs.Hearing.{died_after, may_after, cancel_raises}
use Rattle.lynx_rt.proofs.Keeping.{changed_process}
use Rattle.lynx_rt.proofs.process.Running.cancels_dead.Goals as goal

pub die-requires-clause-process : goal.die-requires-clause-process
die-requires-clause-process c = changed_process c.args.number cancel_late c.args.self.now _ c.in_ok-cancels_late.ensures c.requires.process

pub die-requires-clause-raises : goal.die-requires-clause-raises
die-requires-clause-raises c = may_after c.args.number cancel_late c.args.self.now _ c.in_ok-cancels_late.ensures cancel_raises c.requires.may

pub returns-clause-heard : goal.returns-clause-heard
returns-clause-heard c = died_after c.args.number cancel_late c.args.self.now _ _ c.in_ok-cancels_late.ensures c.in_ok-die.ensures.died
