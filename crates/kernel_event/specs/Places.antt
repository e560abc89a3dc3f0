-- The ends that get an entry in an event have their places before.
use Rattle.charlotte_calls.specs.Names.{opposite}
use Rattle.charlotte_calls.specs.declared.calls.Call.TheVariants as call
use Rattle.charlotte_calls.specs.declared.calls.Call.{Call}
use Rattle.charlotte_packets.specs.declared.packet.What.TheVariants as packet
use Rattle.charlotte_packets.specs.declared.packet.What.{What}
use Rattle.charlotte_packets.specs.declared.picture.MovingPicture.{MovingPicture}
use Rattle.end_table.specs.Table.{TableView, HasPlace}
use Rattle.kernel_step.specs.Calls.{made_end}
use Rattle.std.specs.Prelude.{ℕ, List, [], ◌∷◌}

-- each of these values has a place
abbrev pub ArePlaced : TableView → List MovingPicture → Type 0
ArePlaced t [] = Unit {0}
ArePlaced t (m ∷ ms) = HasPlace t m.end × ArePlaced t ms

-- the values that a packet brings
abbrev pub brought : What → List MovingPicture
brought (packet.Parcel to n w at hops bytes moving) = moving
brought (packet.Back to n moving) = moving
brought _ = []

-- both ends of the link that a Make makes have a place
abbrev pub IsPlacedFor : Call → TableView → ℕ → Type 0
IsPlacedFor call.Make t made = HasPlace t (made_end t.kernel made) × HasPlace t (opposite (made_end t.kernel made))
IsPlacedFor c t made = Unit {0}
