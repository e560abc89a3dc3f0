use Rattle.std.proofs.Common.{arith}
use Rattle.process_ends.proofs.Opening.{opened_none}
use Rattle.process_ends.proofs.opened.Opened.new.Goals as goal

pub invariant_of-result : goal.invariant_of-result
invariant_of-result c = opened_none _ _ c.loop.invariant (omega (arith, c.loop-test.false, c.loop.auto.counter-end))
