use Rattle.std.proofs.Common.{◌-◌, length, refl}
use Rattle.std.proofs.lemmas.List.Elements.{All-from_recursion}
use Rattle.lynx_packets.specs.declared.spot.Part.TheVariants.{Arguments}
use Rattle.lynx_packets.specs.declared.spot.Spot.TheVariants as spots
use Rattle.lynx_packets.specs.Spots.{is_done}
use Rattle.lynx_packets.proofs.Lengths.{Fits, types_fit}
use Rattle.lynx_packets.proofs.signature.signature.Goals as goal

pub returns-clause-lengths : goal.returns-clause-lengths
returns-clause-lengths c = All-from_recursion Fits c.in_ok-arguments.arguments.items (types_fit c.in_ok-name.rest.now 8 (c.from-size.result - length c.in_ok-name.name.now - 1) (spots.Opened Arguments) (is_done (spots.Opened Arguments)) (c.in_ok-arguments.arguments.items, c.in_ok-arguments.rest.now) refl c.in_ok-arguments.ensures)
