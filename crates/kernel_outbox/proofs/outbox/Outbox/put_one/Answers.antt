use Rattle.kernel_net.proofs.Ports.{may-looked}
use Rattle.kernel_outbox.specs.Letters.{waiting_to}
use Rattle.kernel_outbox.proofs.Putting.{put-known}
use Rattle.kernel_outbox.proofs.outbox.Outbox.put_one.Goals as goal

pub put_known-requires-clause-letter : goal.put_known-requires-clause-letter
put_known-requires-clause-letter c =
    may-looked _ _ c.args.port.now c.must_wait.new.port c.must_wait.ensures.looked (c.requires.letter (c.must_wait.ensures.free c.if-must_wait.false).0)

pub returns-clause-put : goal.returns-clause-put
returns-clause-put c =
    let e = c.must_wait.ensures in
    put-known c.args.to c.args.letter (waiting_to c.args.self.now) c.args.port.now c.must_wait.new.port c.put_known.new.self (e.free c.if-must_wait.false).0 e.looked e.into e.place
    c.put_known.ensures.put c.put_known.ensures.place
