-- What an end has.
use Rattle.charlotte_calls.specs.declared.names.EndId.{EndId}
use Rattle.charlotte_packets.specs.declared.picture.MovingPicture.{MovingPicture}
use Rattle.theorem_effects.specs.Fields.{HasFields, Stand}
use Rattle.theorem_effects.specs.Packets.{Links}

-- an end has fields of which this is true
pub record HasSome (w : Links) (x : EndId) (P : MovingPicture → Type 0) : Type 0 where
  pub at : Stand
  pub fields : MovingPicture
  pub are : HasFields w x at fields
  pub is : P fields
