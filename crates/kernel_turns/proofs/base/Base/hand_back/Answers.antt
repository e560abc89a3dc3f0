use Rattle.std.proofs.Common.{sym, ◌∙◌}
use Rattle.kernel_outbox.proofs.Emptying.{nothing-unsent}
use Rattle.kernel_turns.proofs.base.Base.hand_back.Goals as goal

pub returns-then-is_empty-clause-unsent : goal.returns-then-is_empty-clause-unsent
returns-then-is_empty-clause-unsent c = c.emptied.ensures.unsent ∙ sym (nothing-unsent c.args.self.now.outbox (c.is_empty.ensures.0 c.if-is_empty.true))
