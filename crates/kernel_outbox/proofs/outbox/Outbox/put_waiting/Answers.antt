use Rattle.std.proofs.Common.{◌<◌, ◌+◌, length, length-set, set, ◌∙◌, arith, rules}
use Rattle.kernel_outbox.specs.Letters.{waiting_to}
use Rattle.kernel_outbox.proofs.Putting.{none-more, put-fewer, put-full, put-letters, put-may, put-none, put-some, same-more, some-more}
use Rattle.kernel_outbox.proofs.Waiting.{waits_in}
use Rattle.kernel_outbox.proofs.outbox.Outbox.put_waiting.Goals as goal

pub loop-to-preserved : goal.loop-to-preserved
loop-to-preserved c =
    let now = c.loop-to.self in
    let lists = c.loop-to.self.waiting.items in
    let before = c.index_mut.result.now in
    let after = c.put_first-put.new.list in
    let old = c.loop-to.port in
    let new = c.put_first-put.new.port in
    let to = c.loop-to.to in
    let inv = c.loop-to.invariant in
    let puts = c.put_first-put.ensures.puts in
    let below : c.loop-to.to < length c.loop-to.self.waiting.items = search rules in
    let is = c.index_mut.ensures.value in
    record {
      letters = λ q. put-letters lists to before after old new below is puts q ∙ inv.letters q;
      fewer = λ q. omega (arith, put-fewer lists to before after old new below is puts q, inv.fewer q);
      may = put-may lists to before after old new below is puts inv.may;
      full = put-full lists to before after old new below is puts (λ q. q < to + 1) (λ q so other. inv.full q (omega (arith, so, other)));
      into = puts.some.into ∙ inv.into;
      place = puts.some.place ∙ inv.place;
      unsent = inv.unsent;
      lists = length-set lists to after ∙ inv.lists;
      some = some-more c.loop-to.some c.put_first-put.result c.either-some.result (waiting_to c.args.self.now) (waiting_to now) (waits_in (set lists to after)) c.either-some.ensures inv.some
          (λ e. put-some lists to before after old new below is puts (c.put_first-put.ensures.some e)) inv.fewer (put-fewer lists to before after old new below is puts);
      none = none-more c.loop-to.some c.put_first-put.result c.either-some.result (waiting_to c.args.self.now) (waiting_to now) (waits_in (set lists to after)) c.either-some.ensures inv.none
          (λ e. put-none lists to before after old new below is puts (c.put_first-put.ensures.none e));
      port = same-more c.loop-to.some c.put_first-put.result c.either-some.result c.args.port.now old new c.either-some.ensures inv.port c.put_first-put.ensures.port;
    }
