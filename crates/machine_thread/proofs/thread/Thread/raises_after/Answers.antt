use Rattle.std.proofs.Common.{arith, sym, ◌∙◌}
use Rattle.machine_thread.specs.Kept.{opened_of}
use Rattle.machine_thread.proofs.Answering.{where_ok}
use Rattle.machine_thread.proofs.Closing.{ended, landed, raise_asks}
use Rattle.machine_thread.proofs.thread.Thread.raises_after.Goals as goal

pub returns-then-outcomes-raised : goal.returns-then-outcomes-raised
returns-then-outcomes-raised c =
    where_ok
    c.asks.result
    (λ move is b globals actions.
    is globals
    ∙ sym
    (raise_asks b globals actions c.args.raised.exception c.args.raised.taken c.args.raised.heard c.args.raised.closed c.args.self.now
    (omega (arith, c.closes_for-closes.ensures, c.outcomes.ensures))))
    c.asks.ensures

pub returns-in-Some : goal.returns-in-Some
returns-in-Some c = λ b globals actions.
    c.lands.ensures globals
    ∙ landed b globals actions c.args.raised.exception c.args.raised.taken c.args.raised.heard c.args.raised.closed c.closes_for-closes.result c.args.self.now c.pop_try.new.self
    (opened_of c.in-Some.opened)
    c.exception_after-exception.result
    c.in-Some.ensures
    c.closes_for-closes.ensures
    (omega (arith, c.outcomes.ensures))
    c.exception_after-exception.ensures

pub returns-in-None : goal.returns-in-None
returns-in-None c = λ b globals actions.
    ended b globals actions c.args.raised.exception c.args.raised.taken c.args.raised.heard c.args.raised.closed c.closes_for-closes.result c.args.self.now c.in-None.ensures.0 c.closes_for-closes.ensures
    (omega (arith, c.outcomes.ensures))
