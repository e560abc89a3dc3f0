use Rattle.std.proofs.Common.{◌<◌, length, rules}
use Rattle.kernel_net.specs.Ports.{place_of}
use Rattle.kernel_net.proofs.Nets.{net-kept}
use Rattle.charlotte_tests.proofs.ports.Ports.get.Goals as goal

pub invariant_of-self : goal.invariant_of-self
invariant_of-self c =
    let below : c.from-2.result < length c.args.self.now.ports.items = search rules in
    record { net = net-kept (λ p. place_of p.port) _ c.args.self.now.net c.from-2.result c.index_mut.result.now c.get.new.self below c.index_mut.ensures.value c.get.ensures }
