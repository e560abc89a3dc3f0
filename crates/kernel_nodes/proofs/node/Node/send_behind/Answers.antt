use Rattle.std.proofs.Common.{◌<◌, length, length-set, subst, sym, ◌∙◌, arith}
use Rattle.kernel_nodes.proofs.Sent.{sent_in-next}
use Rattle.kernel_nodes.proofs.Targets.{head-there, rest-there}
use Rattle.kernel_nodes.proofs.node.Node.send_behind.Goals as goal

pub index_mut-requires : goal.index_mut-requires
index_mut-requires c =
    let below : c.from.result < length c.loop-sent.self.sent.items
    = subst (λ m. m < length c.loop-sent.self.sent.items) (sym c.from.ensures) (head-there _ c.in-Some.sent c.loop-sent.packets.items _ c.loop-sent.invariant.within c.in-Some.ensures.items) in
    omega (arith, below, c.loop-sent.self.sent.ok.0)

pub loop-sent-preserved : goal.loop-sent-preserved
loop-sent-preserved c =
    let now = c.loop-sent.self in
    let below : c.from.result < length now.sent.items
    = subst (λ m. m < length now.sent.items) (sym c.from.ensures) (head-there _ c.in-Some.sent c.loop-sent.packets.items _ c.loop-sent.invariant.within c.in-Some.ensures.items) in
    record {
      within = rest-there _ _ c.in-Some.sent c.loop-sent.packets.items _ (sym (length-set now.sent.items c.from.result c.push.new.self)) c.loop-sent.invariant.within c.in-Some.ensures.items;
      kernel = c.loop-sent.invariant.kernel;
      lists = length-set now.sent.items c.from.result c.push.new.self ∙ c.loop-sent.invariant.lists;
      sent = λ to.
          sent_in-next now.sent.items c.from.result c.index_mut.result.now c.push.new.self c.in-Some.sent c.loop-sent.packets.items c.pop_front.new.self.items
          c.from.ensures below c.index_mut.ensures.value c.in_ok-push.ensures c.in-Some.ensures.items to
          ∙ c.loop-sent.invariant.sent to;
    }
