-- What the threads put: packets that differ in their stamps alone.
use Rattle.std.specs.Prelude.{ℕ, zero, suc, List, [], ◌∷◌, ◌++◌}
use Rattle.charlotte_calls.specs.declared.names.Side.TheVariants.{A}
use Rattle.charlotte_packets.specs.declared.packet.What.TheVariants.{Known}
use Rattle.kernel_net.specs.declared.letter.Letter.{Letter}
use Rattle.kernel_net.specs.declared.letter.Letter.TheVariants.{Packet}

-- the packet with this stamp
abbrev pub numbered : ℕ → Letter
numbered stamp = Packet (record { stamp = stamp; what = Known (record { link = record { maker = 0; count = 0 }; side = A }) 1 })

-- the packets with the stamps below a number, in order
abbrev pub numbered_below : ℕ → List Letter
numbered_below zero = []
numbered_below (suc n) = numbered_below n ++ numbered n ∷ []
