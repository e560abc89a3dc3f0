use Rattle.std.proofs.Common.{arith}
use Rattle.kernel_net.specs.Ports.{place_of}
use Rattle.kernel_net.proofs.Nets.{split-joined, split-kept}
use Rattle.charlotte_tests.proofs.ports.meet_two.Goals as goal

pub meet-requires : goal.meet-requires
meet-requires c =
    let split = c.split_at_mut-front.ensures in
    split-joined (λ p. place_of p.port) c.args.ports.now _ _ split.value c.args.first (omega (arith, c.requires.order.0, split.front_len)) (omega (arith, c.requires.order.1, split.back_len))
    c.index-front-first.result c.index-back-0.result c.requires.net

pub returns : goal.returns
returns c =
    let split = c.split_at_mut-front.ensures in
    split-kept (λ p. place_of p.port) c.args.ports.now _ _ split.value c.args.first (omega (arith, c.requires.order.0, split.front_len)) (omega (arith, c.requires.order.1, split.back_len))
    c.index-front-first.result c.index-back-0.result c.meet.new.self c.meet.new.other c.meet.ensures.own c.meet.ensures.other
