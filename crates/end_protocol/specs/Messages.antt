-- Packets to be sent, and the ends that travel with them.
use Rattle.std.specs.Prelude.{ℕ, ◌+◌, ◌==◌, if◌then◌else◌, min, List, [], ◌∷◌, take, drop}
use Rattle.charlotte_calls.specs.declared.names.EndId.{EndId}
use Rattle.lynx_packets.specs.declared.packet.RtPacket.TheVariants as packets
use Rattle.lynx_packets.specs.declared.value.RtValue.{RtValue}
use Rattle.lynx_packets.specs.Spelling.{links_of}
use Rattle.end_protocol.specs.declared.messages.Connect.{Connect}
use Rattle.end_protocol.specs.declared.messages.Message.{Message}

-- how many ends of a LYNX message travel with its packet at most: in version 1 the first, in version 2 all, which are at most eight
abbrev pub most_of : ℕ → ℕ
most_of version = if version == 1 then 1 else 8

-- how many ends travel with the packet of a request or reply with these values
abbrev pub carried : ℕ → List RtValue → ℕ
carried version values = min (most_of version) (links_of values)

-- the request of a connect, with those ends that travel with it
abbrev pub request_of : ℕ → Connect → Message
request_of version c = record { packet = packets.Request c.number c.signature c.values; ends = take (most_of version) c.ends }

-- the connect without the ends that travel with its request
abbrev pub left_of : ℕ → Connect → Connect
left_of version c = record c { ends = drop (most_of version) c.ends }

-- an enc for each end, in order, from this index on
abbrev pub encs : ℕ → ℕ → ℕ → List EndId → List Message
encs kind number index [] = []
encs kind number index (x ∷ xs) = record { packet = packets.Enc kind number index; ends = x ∷ [] } ∷ encs kind number (index + 1) xs

-- the enc packets of a message of this kind (1 a request, 2 a reply) for its further ends, of which there are at most seven
abbrev pub further : ℕ → ℕ → List EndId → List Message
further kind number xs = encs kind number 2 (take 7 xs)
