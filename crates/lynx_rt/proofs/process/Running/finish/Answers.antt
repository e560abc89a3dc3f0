use Rattle.std.proofs.Common.{sym, ◌∙◌}
use Rattle.lynx_rt.proofs.Stepping.{exits_on, waits_on}
use Rattle.lynx_rt.proofs.process.Running.finish.Goals as goal

pub returns-then-is_alive : goal.returns-then-is_alive
returns-then-is_alive c = waits_on _ c.args.self.now _ _ (sym c.is_alive.ensures ∙ c.if-is_alive.true) c.ask.ensures.next c.ask.ensures.asked

pub returns : goal.returns
returns c = exits_on _ c.args.self.now _ _ (sym c.is_alive.ensures ∙ c.if-is_alive.false) c.exit.ensures.next c.exit.ensures.asked
