use Rattle.kernel_outbox.specs.Letters.{waiting_to}
use Rattle.kernel_outbox.proofs.Putting.{waits-none}
use Rattle.kernel_outbox.proofs.outbox.Outbox.must_wait.Goals as goal

pub returns-clause-free : goal.returns-clause-free
returns-clause-free c e = (waits-none (waiting_to c.args.self.now c.args.to) c.waits.result c.waits.ensures.1 c.if-waits.false, c.is_full.ensures.free e)
