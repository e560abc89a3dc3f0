use Rattle.std.proofs.Common.{◌<◌, ◌++◌, length, length-set, ap, ◌∙◌, sym, refl, append_assoc, rules}
use Rattle.kernel_net.specs.declared.letter.Letter.TheVariants.{Marker}
use Rattle.kernel_outbox.specs.Letters.{if_to, markers_to, waiting_to}
use Rattle.kernel_outbox.proofs.Waiting.{markers-more, waits-push}
use Rattle.kernel_outbox.proofs.outbox.Outbox.mark_each.Goals as goal

pub loop-to-preserved : goal.loop-to-preserved
loop-to-preserved c =
    let now = c.loop-to.self in
    let to = c.loop-to.to in
    let below : c.loop-to.to < length c.loop-to.self.waiting.items = search rules in
    record {
      waiting = λ q.
          waits-push now.waiting.items to to c.index_mut-list.result.now c.push_back.new.self Marker refl below c.index_mut-list.ensures.value c.in_ok-push_back.ensures.items q
          ∙ ap (λ ls. ls ++ if_to q to Marker) (c.loop-to.invariant.waiting q)
          ∙ append_assoc (waiting_to c.args.self.now q) (markers_to to q) (if_to q to Marker)
          ∙ ap (λ ls. waiting_to c.args.self.now q ++ ls) (sym (markers-more to q));
      unsent = c.loop-to.invariant.unsent;
      lists = length-set now.waiting.items to c.push_back.new.self ∙ c.loop-to.invariant.lists;
    }
