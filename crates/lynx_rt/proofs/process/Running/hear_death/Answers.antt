use Rattle.end_protocol.specs.Going.{receive_over}
use Rattle.lynx_rt.proofs.Hearing.{died_after, may_after, receive_raises}
use Rattle.lynx_rt.proofs.Keeping.{changed_process}
use Rattle.lynx_rt.proofs.process.Running.hear_death.Goals as goal

pub die-requires-clause-process : goal.die-requires-clause-process
die-requires-clause-process c = changed_process c.args.number receive_over c.args.self.now _ c.in_ok-ends_receive.ensures c.requires.process

pub die-requires-clause-raises : goal.die-requires-clause-raises
die-requires-clause-raises c = may_after c.args.number receive_over c.args.self.now _ c.in_ok-ends_receive.ensures receive_raises c.requires.may

pub returns-clause-heard : goal.returns-clause-heard
returns-clause-heard c = died_after c.args.number receive_over c.args.self.now _ _ c.in_ok-ends_receive.ensures c.in_ok-die.ensures.died
