-- How a packet is read.
use Rattle.std.specs.Prelude.{◌≡◌, ℕ, zero, suc, List, [], ◌∷◌, ◌-◌, length, Result, Ok, Err, ◌==◌, if◌then◌else◌}
use Rattle.lynx_packets.specs.declared.packet.RtPacket.{RtPacket}
use Rattle.lynx_packets.specs.declared.packet.RtPacket.TheVariants as packets
use Rattle.lynx_packets.specs.declared.fault.DecodeFault.{DecodeFault}
use Rattle.lynx_packets.specs.declared.fault.DecodeFault.TheVariants as faults
use Rattle.lynx_packets.specs.Reading.{◌>>=◌, byte_at, number_at, arguments_at, values_at}
use Rattle.lynx_packets.specs.Spots.{signature_at}

-- nothing may follow
abbrev pub ended : RtPacket → List ℕ → Result RtPacket ℕ
ended packet [] = Ok packet
ended packet (b ∷ bs) = Err (suc (length bs))

unfoldable pub request_of : List ℕ → Result RtPacket ℕ
request_of bytes = do
  number ← number_at bytes
  signature ← signature_at number.1
  vs ← arguments_at signature.0.1 signature.1
  ended (packets.Request number.0 signature.0.0 vs.0) vs.1

-- the values of a reply: none where the request failed
abbrev pub results_of : ℕ → ℕ → List ℕ → Result RtPacket ℕ
results_of number zero bytes = values_at (length bytes) 8 bytes >>= λ vs. Ok (packets.Reply number 0 vs.0)
results_of number (suc status) bytes = ended (packets.Reply number 1 []) bytes

unfoldable pub reply_of : List ℕ → Result RtPacket ℕ
reply_of bytes = do
  number ← number_at bytes
  status ← byte_at 0 1 number.1
  results_of number.0 status.0 status.1

-- the packets that are a number alone
abbrev pub numbered : ℕ → ℕ → RtPacket
numbered kind n = if kind == 3 then packets.Retry n else if kind == 4 then packets.Forbid n else if kind == 5 then packets.Allow n else packets.GoAhead n

unfoldable pub numbered_of : ℕ → List ℕ → Result RtPacket ℕ
numbered_of kind bytes = do
  number ← number_at bytes
  ended (numbered kind number.0) number.1

unfoldable pub enc_of : List ℕ → Result RtPacket ℕ
enc_of bytes = do
  kind ← byte_at 1 2 bytes
  number ← number_at kind.1
  index ← byte_at 2 8 number.1
  ended (packets.Enc kind.0 number.0 index.0) index.1

-- what stands behind the byte that tells the kind of a packet
abbrev pub of_kind : ℕ → List ℕ → Result RtPacket ℕ
of_kind kind bytes = if kind == 1 then request_of bytes else if kind == 2 then reply_of bytes else if kind == 7 then enc_of bytes else numbered_of kind bytes

-- the last kind of a version
abbrev pub last_kind : ℕ → ℕ
last_kind version = if version == 1 then 7 else 5

-- the packet that all of the bytes spell in the version, or how many bytes stand from the first wrong one on
unfoldable pub packet_of : ℕ → List ℕ → Result RtPacket ℕ
packet_of version bytes = do
  kind ← byte_at 1 (last_kind version) bytes
  of_kind kind.0 kind.1

-- what a function told of so many bytes is what was read of them, unless memory ran out
abbrev pub Tells : ℕ → Result RtPacket DecodeFault → Result RtPacket ℕ → Type 0
Tells size (Ok packet) read = read ≡ Ok packet
Tells size (Err (faults.BadPacket at)) read = (left : ℕ) × (read ≡ Err left) × (at ≡ size - left)
Tells size (Err faults.NoMemory) read = Unit {0}
