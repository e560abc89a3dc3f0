use Rattle.std.proofs.Common.{◌≡◌, ◌++◌, arith, rules}
use Rattle.kernel_net.specs.Ports.{place_of}
use Rattle.kernel_net.proofs.Nets.{split-joined}
use Rattle.charlotte_tests.proofs.threads.across.Goals as goal

pub work_both-requires-clause-net : goal.work_both-requires-clause-net
work_both-requires-clause-net g c κs within =
    let made = c.in_ok-ports.ensures in
    let split = c.split_at_mut-front.ensures in
    let whole : c.in_ok-ports.ports.items ≡ c.split_at_mut-front.result.0.now ++ c.split_at_mut-front.result.1.now = search rules in
    split-joined place_of c.in_ok-ports.ports.items c.split_at_mut-front.result.0.now c.split_at_mut-front.result.1.now whole 0 (omega (arith, made.count, split.front_len)) (omega (arith, made.count, split.back_len))
    c.index-front-0.result c.index-back-0.result made.net
