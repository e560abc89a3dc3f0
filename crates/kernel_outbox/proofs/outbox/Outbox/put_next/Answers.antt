use Rattle.std.proofs.Common.{true, subst, sym}
use Rattle.kernel_net.specs.declared.letter.Letter.TheVariants as letter
use Rattle.kernel_outbox.specs.Letters.{PutsOne, waiting_to}
use Rattle.kernel_outbox.proofs.Putting.{put-known, taken-to}
use Rattle.kernel_outbox.proofs.outbox.Outbox.put_next.Goals as goal

pub returns-clause-put : goal.returns-clause-put
returns-clause-put c =
    let e = c.must_wait.ensures in
    let W = waiting_to c.args.self.now in
    let sent = c.pop_whole-packet.result in
    let same = taken-to c.in-Some.to c.args.self.now.unsent sent _ c.in-Some.ensures c.pop_whole-packet.ensures in
    record {
      sent = sent;
      first = c.pop_whole-packet.ensures;
      one = subst (λ n. PutsOne true n (letter.Packet sent.1) W W c.args.port.now c.put_known.new.self) (sym same)
          (put-known c.in-Some.to (letter.Packet sent.1) W c.args.port.now c.must_wait.new.port c.put_known.new.self (e.free c.if-must_wait.false).0 e.looked e.into e.place
          c.put_known.ensures.put c.put_known.ensures.place);
    }
