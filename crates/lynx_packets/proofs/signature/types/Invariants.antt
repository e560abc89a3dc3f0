use Rattle.std.proofs.Common.{◌≡◌, length}
use Rattle.lynx_packets.specs.declared.spot.Part.TheVariants.{Arguments}
use Rattle.lynx_packets.specs.declared.spot.Spot.TheVariants as spots
use Rattle.lynx_packets.specs.Spots.{types_at}
use Rattle.lynx_packets.proofs.Loop.{with_front}
use Rattle.lynx_packets.proofs.signature.types.Given as goal

abbrev pub invariant-loop-spot : goal.invariant-loop-spot
invariant-loop-spot l = with_front l.types.items (types_at l.links l.left l.spot l.rest) ≡ types_at 8 l.fn.left (spots.Opened Arguments) l.fn.bytes

abbrev pub decreases-loop-spot : goal.decreases-loop-spot
decreases-loop-spot l = length l.rest
