use Rattle.kernel_turns.specs.Turns.{InTime}
use Rattle.kernel_turns.proofs.base.Base.begin_in_time.Goals as goal

pub returns-in_ok-begin-clause-begins : goal.returns-in_ok-begin-clause-begins
returns-in_ok-begin-clause-begins c = InTime (c.is_due.ensures.0 c.if-is_due.true) c.in_ok-begin.ensures.begins
