use Rattle.std.proofs.Common.{◌≡◌, drop}
use Rattle.lynx_packets.specs.Reading.{arguments_at}
use Rattle.lynx_packets.proofs.Loop.{with_front}
use Rattle.lynx_packets.proofs.values.arguments.Given as goal

abbrev pub invariant-loop-kind : goal.invariant-loop-kind
invariant-loop-kind l = with_front l.values.items (arguments_at (drop l.kind-index l.kinds) l.rest) ≡ arguments_at l.kinds l.bytes
