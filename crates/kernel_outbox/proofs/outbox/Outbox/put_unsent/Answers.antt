use Rattle.std.proofs.Common.{ap, sym, refl, ◌∙◌, arith}
use Rattle.kernel_net.specs.Ports.{kernels_of}
use Rattle.kernel_outbox.specs.Letters.{outbox_to, waiting_to}
use Rattle.kernel_outbox.proofs.Going.{rest-there}
use Rattle.kernel_outbox.proofs.Putting.{none-more, same-more, sent-fewer, sent-full, sent-letters, sent-may, sent-none, sent-some, some-more}
use Rattle.kernel_outbox.proofs.outbox.Outbox.put_unsent.Goals as goal

pub loop-self-preserved : goal.loop-self-preserved
loop-self-preserved c =
    let inv = c.loop-self.invariant in
    let next = c.in_ok-put.ensures.put in
    let W = waiting_to c.loop-self.self in
    let W' = waiting_to c.put_next.new.self in
    let n = next.sent.0 in
    let p = next.sent.1 in
    let left = c.loop-self.self.unsent.items in
    let rest = c.put_next.new.self.unsent.items in
    let first = next.first in
    let old = c.loop-self.port in
    let new = c.put_next.new.port in
    let put = c.in_ok-put.put in
    let one = next.one in
    record {
      kernels = inv.kernels ∙ ap (λ place. kernels_of place) (sym one.place);
      letters = λ q. sent-letters W W' n p left rest first old new put one q ∙ inv.letters q;
      fewer = λ q. omega (arith, sent-fewer W W' n p left rest first old new put one q, inv.fewer q);
      may = sent-may W W' n p left rest first old new put one inv.may;
      full = sent-full W W' n p left rest first old new put one inv.full;
      into = one.into ∙ inv.into;
      place = one.place ∙ inv.place;
      within = rest-there _ _ (n, p) left rest refl inv.within first;
      lists = c.in_ok-put.ensures.lists;
      some = some-more c.loop-self.some put c.either-some.result (outbox_to c.args.self.now) (outbox_to c.loop-self.self) (outbox_to c.put_next.new.self) c.either-some.ensures inv.some
          (sent-some W W' n p left rest first old new put one) inv.fewer (sent-fewer W W' n p left rest first old new put one);
      none = none-more c.loop-self.some put c.either-some.result (outbox_to c.args.self.now) (outbox_to c.loop-self.self) (outbox_to c.put_next.new.self) c.either-some.ensures inv.none
          (sent-none W W' n p left rest first old new put one);
      port = same-more c.loop-self.some put c.either-some.result c.args.port.now old new c.either-some.ensures inv.port c.in_ok-put.ensures.port;
    }
