use Rattle.end_protocol.specs.Going.{send_over}
use Rattle.lynx_rt.proofs.Hearing.{came_back, may_after, send_raises}
use Rattle.lynx_rt.proofs.Keeping.{changed_process}
use Rattle.lynx_rt.proofs.process.Running.hear_return.Goals as goal

pub die-requires-clause-process : goal.die-requires-clause-process
die-requires-clause-process c = changed_process c.args.number send_over c.args.self.now _ c.in_ok-ends_send.ensures c.requires.process

pub die-requires-clause-raises : goal.die-requires-clause-raises
die-requires-clause-raises c = may_after c.args.number send_over c.args.self.now _ c.in_ok-ends_send.ensures send_raises c.requires.may

pub returns-clause-heard : goal.returns-clause-heard
returns-clause-heard c =
    came_back c.args.number c.sends_own-own.result c.args.ends.now c.args.self.now _ _ _ c.sends_own-own.ensures c.in_ok-ends_send.ensures c.in_ok-die.ensures.died c.in_ok-hold_if.ensures
