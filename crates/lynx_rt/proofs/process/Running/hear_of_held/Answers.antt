use Rattle.lynx_rt.proofs.Hearing.{may_die_of, may_listen}
use Rattle.lynx_rt.proofs.process.Running.hear_of_held.Goals as goal

pub hear_message-requires-clause-may : goal.hear_message-requires-clause-may
hear_message-requires-clause-may c = may_listen c.args.number _ c.args.report.now c.args.self.now c.in-Inward.is c.in-Done.is c.requires.may

pub hear_death-requires-clause-may : goal.hear_death-requires-clause-may
hear_death-requires-clause-may c = may_die_of c.args.number c.args.report.now c.args.self.now c.in-Destroyed.is c.requires.may
