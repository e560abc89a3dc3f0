use Rattle.std.proofs.Common.{◌<◌, length, length-set, subst, sym, ◌∙◌, arith}
use Rattle.kernel_outbox.proofs.Going.{head-there, rest-there}
use Rattle.kernel_outbox.proofs.Waiting.{waits-next}
use Rattle.kernel_outbox.proofs.outbox.Outbox.let_wait.Goals as goal

pub index_mut-list-requires : goal.index_mut-list-requires
index_mut-list-requires c =
    let below : c.from.result < length c.loop-to.self.waiting.items
    = subst (λ m. m < length c.loop-to.self.waiting.items) (sym c.from.ensures) (head-there _ (c.in-Some.to, c.in-Some.packet) _ _ c.loop-to.invariant.within c.in-Some.ensures.items) in
    omega (arith, below, c.loop-to.self.waiting.ok.0)

pub loop-to-preserved : goal.loop-to-preserved
loop-to-preserved c =
    let now = c.loop-to.self in
    let below : c.from.result < length c.loop-to.self.waiting.items
    = subst (λ m. m < length c.loop-to.self.waiting.items) (sym c.from.ensures) (head-there _ (c.in-Some.to, c.in-Some.packet) _ _ c.loop-to.invariant.within c.in-Some.ensures.items) in
    record {
      within = rest-there _ _ (c.in-Some.to, c.in-Some.packet) _ _ (sym (length-set now.waiting.items c.from.result c.push_back.new.self)) c.loop-to.invariant.within c.in-Some.ensures.items;
      letters = λ q.
          waits-next now.waiting.items c.from.result c.in-Some.to c.index_mut-list.result.now c.push_back.new.self c.in-Some.packet now.unsent.items c.pop_front.new.self.items
          c.from.ensures below c.index_mut-list.ensures.value c.in_ok-push_back.ensures.items c.in-Some.ensures.items q
          ∙ c.loop-to.invariant.letters q;
      lists = length-set now.waiting.items c.from.result c.push_back.new.self ∙ c.loop-to.invariant.lists;
    }
