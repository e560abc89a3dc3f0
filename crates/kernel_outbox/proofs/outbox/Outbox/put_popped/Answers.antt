use Rattle.kernel_outbox.proofs.Going.{head-there}
use Rattle.kernel_outbox.proofs.outbox.Outbox.put_popped.Goals as goal

pub put_one-requires-clause-there : goal.put_one-requires-clause-there
put_one-requires-clause-there c = head-there _ (c.in-Some.to, c.in-Some.packet) _ _ c.requires.within c.in-Some.ensures.items
