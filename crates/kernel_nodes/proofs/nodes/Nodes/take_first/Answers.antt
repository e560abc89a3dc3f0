use Rattle.std.proofs.Common.{◌<◌, ◌∙◌, List, ap, arith, length, subst, sym}
use Rattle.packet_queue.specs.Queue.{picture_in, waiting}
use Rattle.kernel_nodes.specs.declared.node.Node.{Node}
use Rattle.kernel_nodes.proofs.Events.{if_ok_both}
use Rattle.kernel_nodes.proofs.Targets.{within-same}
use Rattle.kernel_nodes.proofs.Worlds.{IsTaking, after-lent, take_happens_at, taken-lent, takes-lists_at, under_way}
use Rattle.kernel_nodes.proofs.nodes.Nodes.take_first.Goals as goal

pub take-requires : goal.take-requires
take-requires c =
    let ns : List Node = c.args.self.now.nodes.items in
    let below : c.from-sender.result < length ns = omega (arith, c.from-sender.ensures, c.requires.2.count, c.requires.3) in
    let below_to : c.from-taker.result < length ns = omega (arith, c.from-taker.ensures, c.requires.2.count, c.requires.4) in
    let some = under_way c.requires.0 ns c.args.from c.args.to c.from-sender.result c.requires.1 c.index_mut.result.now c.lift-waiting.result.front.items c.lift-waiting.result.behind.items (sym c.from-sender.ensures) below c.index_mut.ensures.value
    c.lift-waiting.ensures.queue c.lift-waiting.ensures.front c.requires.5 in
    let taker = after-lent c.requires.0 ns c.from-sender.result c.from-taker.result c.index_mut.result.now c.lift-waiting.new.self c.index_mut-2.result.now c.requires.2 below c.index_mut.ensures.value
    c.lift-waiting.ensures.kernel c.lift-waiting.ensures.lists below_to c.index_mut-2.ensures.value in
    record { from = subst (λ m. c.args.from < m) (sym taker.kernels) c.requires.3; some = some }

pub send-requires : goal.send-requires
send-requires c =
    let ns : List Node = c.args.self.now.nodes.items in
    let below : c.from-sender.result < length ns = omega (arith, c.from-sender.ensures, c.requires.2.count, c.requires.3) in
    let below_to : c.from-taker.result < length ns = omega (arith, c.from-taker.ensures, c.requires.2.count, c.requires.4) in
    let some = under_way c.requires.0 ns c.args.from c.args.to c.from-sender.result c.requires.1 c.index_mut.result.now c.lift-waiting.result.front.items c.lift-waiting.result.behind.items (sym c.from-sender.ensures) below c.index_mut.ensures.value
    c.lift-waiting.ensures.queue c.lift-waiting.ensures.front c.requires.5 in
    let taking : IsTaking ns c.args.to c.from-sender.result c.from-taker.result (picture_in some.0) (waiting c.take.new.waiting) c.index_mut.result.now c.lift-waiting.new.self c.index_mut-2.result.now c.take.new.self c.index_mut-3.result.now c.lower.new.self c.index_mut-4.result.now =
    record {
      below = below;
      below_to = below_to;
      lends_at = c.index_mut.ensures.value;
      lent = taken-lent c.lift-waiting.result.front.items c.take.new.waiting.front.items c.lift-waiting.result.behind.items c.take.new.waiting.behind.items some.0 some.1 some.2 c.in_ok-effect.ensures.left
          (ap (λ q. q.items) c.in_ok-effect.ensures.behind) ∙ c.lift-waiting.ensures.queue;
      lends = c.lift-waiting.ensures.kernel;
      lends_lists = c.lift-waiting.ensures.lists;
      lends_others = c.lift-waiting.ensures.others;
      takes_at = c.index_mut-2.ensures.value;
      takes = c.in_ok-effect.ensures.sent;
      takes_processes = c.in_ok-effect.ensures.processes;
      takes_kernels = c.in_ok-effect.ensures.kernels;
      gets_at = c.index_mut-3.ensures.value;
      gets_list = c.in_ok-lower.ensures.queue;
      gets = c.in_ok-lower.ensures.kernel;
      gets_lists = c.in_ok-lower.ensures.lists;
      gets_others = c.in_ok-lower.ensures.others;
      sends_at = c.index_mut-4.ensures.value;
    } in
    within-same _ _ c.in_ok-effect.effect.packets.items
    (takes-lists_at c.requires.0 ns c.args.from c.args.to c.from-sender.result c.from-taker.result c.requires.2 (sym c.from-sender.ensures) (sym c.from-taker.ensures) _ _ _ _ _ _ _ _ _ taking) c.in_ok-effect.ensures.there

pub returns : goal.returns
returns c =
    let ns : List Node = c.args.self.now.nodes.items in
    let below : c.from-sender.result < length ns = omega (arith, c.from-sender.ensures, c.requires.2.count, c.requires.3) in
    let below_to : c.from-taker.result < length ns = omega (arith, c.from-taker.ensures, c.requires.2.count, c.requires.4) in
    let some = under_way c.requires.0 ns c.args.from c.args.to c.from-sender.result c.requires.1 c.index_mut.result.now c.lift-waiting.result.front.items c.lift-waiting.result.behind.items (sym c.from-sender.ensures) below c.index_mut.ensures.value
    c.lift-waiting.ensures.queue c.lift-waiting.ensures.front c.requires.5 in
    let taking : IsTaking ns c.args.to c.from-sender.result c.from-taker.result (picture_in some.0) (waiting c.take.new.waiting) c.index_mut.result.now c.lift-waiting.new.self c.index_mut-2.result.now c.take.new.self c.index_mut-3.result.now c.lower.new.self c.index_mut-4.result.now =
    record {
      below = below;
      below_to = below_to;
      lends_at = c.index_mut.ensures.value;
      lent = taken-lent c.lift-waiting.result.front.items c.take.new.waiting.front.items c.lift-waiting.result.behind.items c.take.new.waiting.behind.items some.0 some.1 some.2 c.in_ok-effect.ensures.left
          (ap (λ q. q.items) c.in_ok-effect.ensures.behind) ∙ c.lift-waiting.ensures.queue;
      lends = c.lift-waiting.ensures.kernel;
      lends_lists = c.lift-waiting.ensures.lists;
      lends_others = c.lift-waiting.ensures.others;
      takes_at = c.index_mut-2.ensures.value;
      takes = c.in_ok-effect.ensures.sent;
      takes_processes = c.in_ok-effect.ensures.processes;
      takes_kernels = c.in_ok-effect.ensures.kernels;
      gets_at = c.index_mut-3.ensures.value;
      gets_list = c.in_ok-lower.ensures.queue;
      gets = c.in_ok-lower.ensures.kernel;
      gets_lists = c.in_ok-lower.ensures.lists;
      gets_others = c.in_ok-lower.ensures.others;
      sends_at = c.index_mut-4.ensures.value;
    } in
    if_ok_both c.send.result
    (λ noted about sent s are. take_happens_at s ns c.args.from c.args.to c.from-sender.result c.from-taker.result are (sym c.from-sender.ensures) (sym c.from-taker.ensures)
    _ _ _ _ _ _ _ _ _ c.send.new.self c.in_ok-effect.effect noted taking (c.in_ok-effect.ensures.step some.0 some.1 some.2) c.in_ok-effect.ensures.stamp
    (record { stamp = about.0; steps = about.1; kernel = c.send.ensures.kernel; sent = sent; lists = c.send.ensures.lists }))
    c.send.ensures.noted c.send.ensures.sent
