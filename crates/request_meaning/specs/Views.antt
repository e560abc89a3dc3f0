-- What is kept for an end as far as requests of one way over the link go: those that are asked there, and those that are served there.
use Rattle.std.specs.Prelude.{Bool, true, false, not, ℕ, ◌==◌, List, filter, Option}
use Rattle.lynx_packets.specs.declared.packet.RtPacket.{RtPacket}
use Rattle.lynx_packets.specs.declared.packet.RtPacket.TheVariants as packets
use Rattle.end_protocol.specs.declared.kept.Forbade.{Forbade}
use Rattle.end_protocol.specs.declared.kept.Kept.{Kept}
use Rattle.end_protocol.specs.declared.kept.Response.{Response}
use Rattle.end_protocol.specs.declared.kept.Wanted.{Wanted}
use Rattle.end_protocol.specs.declared.messages.Connect.{Connect}
use Rattle.end_protocol.specs.declared.messages.Message.{Message}

-- where requests are asked
pub record Asking : Type 0 where
  pub outstanding : Option Connect
  pub barred : Bool
  pub reply : Option Response
  pub behind : List Connect
  pub dead : Bool

-- where requests are served
pub record Serving : Type 0 where
  pub owed : Option ℕ
  pub forbade : Option Forbade
  pub request : Option Wanted
  pub dead : Bool

abbrev pub asking : Kept → Asking
asking k = record { outstanding = k.outstanding; barred = k.barred; reply = k.reply; behind = k.behind; dead = k.dead }

abbrev pub serving : Kept → Serving
serving k = record { owed = k.owed; forbade = k.forbade; request = k.request; dead = k.dead }

-- the packet comes from who asks. All others come from who serves
abbrev pub asks : RtPacket → Bool
asks (packets.Request number signature vs) = true
asks (packets.Enc kind number index) = kind == 1
asks _ = false

-- the messages of who asks, and those of who serves
abbrev pub forth_in : List Message → List Message
forth_in ms = filter (λ m. asks m.packet) ms

abbrev pub back_in : List Message → List Message
back_in ms = filter (λ m. not (asks m.packet)) ms
