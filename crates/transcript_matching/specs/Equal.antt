-- Equality, as `==` tells it.
use Rattle.std.specs.Prelude.{Bool}
use Rattle.charlotte_calls.specs.contracts.names.EndIdPartialEq.TheImpl as of_ends
use Rattle.charlotte_packets.specs.contracts.picture.MovingPicturePartialEq.TheImpl as of_values
use Rattle.charlotte_calls.specs.declared.names.EndId.{EndId}
use Rattle.charlotte_packets.specs.declared.picture.MovingPicture.{MovingPicture}

-- two ends are the same
unfoldable pub end_eq : EndId → EndId → Bool
end_eq = (of_ends.ghosts).eq

-- the fields of two values are the same
unfoldable pub value_eq : MovingPicture → MovingPicture → Bool
value_eq = (of_values.ghosts).eq
