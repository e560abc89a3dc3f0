use Rattle.std.proofs.Common.{◌≡◌, map}
use Rattle.kernel_net.specs.Ports.{place_of}
use Rattle.charlotte_tests.proofs.ports.checked.Given as goal

abbrev pub invariant-loop-port : goal.invariant-loop-port
invariant-loop-port l = map (λ p. place_of p.port) l.ports.items ≡ map place_of l.yielded
