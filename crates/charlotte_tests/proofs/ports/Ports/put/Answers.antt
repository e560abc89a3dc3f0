use Rattle.std.proofs.Common.{◌<◌, length, rules, arith}
use Rattle.kernel_net.specs.Ports.{place_of}
use Rattle.kernel_net.proofs.Nets.{net-kept, net-kernels}
use Rattle.charlotte_tests.proofs.ports.Ports.put.Goals as goal

pub put-requires : goal.put-requires
put-requires c =
    let below : c.from-2.result < length c.args.self.now.ports.items = search rules in
    let to : c.args.to < length c.args.self.now.ports.items = search rules in
    omega (arith, to, net-kernels (λ p. place_of p.port) _ c.args.self.now.net c.from-2.result c.index_mut.result.now below c.index_mut.ensures.value)

pub invariant_of-self : goal.invariant_of-self
invariant_of-self c =
    let below : c.from-2.result < length c.args.self.now.ports.items = search rules in
    record { net = net-kept (λ p. place_of p.port) _ c.args.self.now.net c.from-2.result c.index_mut.result.now c.put.new.self below c.index_mut.ensures.value c.put.ensures }
