-- Packets that a process sends, and values that it is told.
use Rattle.std.specs.Prelude.{ℕ, ◌≤◌, List, length, ⊤}
use Rattle.std.specs.List.{AllByRecursion}
use Rattle.charlotte_calls.specs.Ranges.{AreBytes, IsU32}
use Rattle.lynx_tree.specs.declared.declaration.TypeName.{TypeName}
use Rattle.lynx_meaning.specs.Values.{HaveTypes}
use Rattle.lynx_packets.specs.declared.packet.RtPacket.{RtPacket}
use Rattle.lynx_packets.specs.declared.packet.RtPacket.TheVariants as packets
use Rattle.lynx_packets.specs.declared.value.RtValue.{RtValue}
use Rattle.lynx_packets.specs.declared.value.RtValue.TheVariants as values
use Rattle.lynx_packets.specs.Spelling.{Has, IsPacket, spelling}
use Rattle.typing_signatures.specs.Facts.{most_packet}
use Rattle.process_run.specs.Ends.{unpacked}

-- Texts are bytes. The rules for values in a machine do not say so, and a program tells it by its types
abbrev pub IsOfBytes : RtValue → Type 0
IsOfBytes (values.Text bytes) = AreBytes bytes
IsOfBytes _ = ⊤

abbrev pub AreOfBytes : RtPacket → Type 0
AreOfBytes (packets.Request number signature vs) = AllByRecursion IsOfBytes vs
AreOfBytes (packets.Reply number status vs) = AllByRecursion IsOfBytes vs
AreOfBytes _ = ⊤

-- a process of the version may send the packet, which is one of the version and no longer than a message may be
pub record MaySend (version : ℕ) (packet : RtPacket) : Type 0 where
  pub has : Has version packet
  pub obeys : AreOfBytes packet → IsPacket packet
  pub fits : length (spelling packet) ≤ most_packet

-- a request with these, under whatever number
abbrev pub MayAsk : List ℕ → List RtValue → Type 0
MayAsk signature vs = (version number : ℕ) → IsU32 number → MaySend version (packets.Request number signature vs)

-- values that came have these types, whatever the numbers of their links are
abbrev pub Unpack : List TypeName → List RtValue → Type 0
Unpack ts vs = (n : ℕ) → HaveTypes ts (unpacked n vs)
