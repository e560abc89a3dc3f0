use Rattle.std.proofs.Common.{arith, ap}
use Rattle.lynx_interp.specs.Machines.{State}
use Rattle.lynx_interp.proofs.Counting.{full, stands_so_far}
use Rattle.lynx_interp.proofs.machine.Machine.free_number.Goals as goal

pub loop-number-preserved : goal.loop-number-preserved
loop-number-preserved c =
    stands_so_far c.self.inside.threads.items c.args.self.now.turns.threads c.loop-number.number c.from.result c.index.result.now c.stands.result (ap (λ (s : State). s.turns.threads) c.self.view_is) c.from.ensures
    c.index.ensures (omega (arith, c.loop-number-test.true, c.self.invariant)) c.stands.ensures c.if-not-stands.false c.loop-number.invariant

pub returns-clause-free : goal.returns-clause-free
returns-clause-free c =
    full c.self.inside.threads.items c.args.self.now.turns.threads c.loop-number.number (ap (λ (s : State). s.turns.threads) c.self.view_is) c.self.invariant c.loop-number-test.false c.loop-number.invariant
