use Rattle.std.proofs.Common.{arith, Err, Some, None, ap, subst}
use Rattle.lynx_packets.specs.declared.fault.DecodeFault.{DecodeFault}
use Rattle.lynx_packets.specs.Packets.{packet_of}
use Rattle.process_run.specs.States.{State}
use Rattle.lynx_rt.specs.Steps.{IsRead}
use Rattle.lynx_rt.proofs.Hearing.{read_none, read_packet}
use Rattle.lynx_rt.proofs.process.Running.read.Goals as goal

pub returns-in-Ok : goal.returns-in-Ok
returns-in-Ok c =
    subst (λ (s : State). IsRead (Some c.in-Ok.packet) (packet_of s.version c.args.bytes.now)) c.self.view_is
    (read_packet c.self.inside.version c.in-Ok.packet c.args.bytes.now c.in-Ok.ensures.found)

pub returns-in-Err-BadPacket : goal.returns-in-Err-BadPacket
returns-in-Err-BadPacket c =
    subst (λ (s : State). IsRead None (packet_of s.version c.args.bytes.now)) c.self.view_is
    (read_none c.self.inside.version c.in-Err-BadPacket.field-0-0 c.args.bytes.now (λ i. omega (arith, c.type_inv.bytes i)) (c.in-Err-BadPacket.ensures.wrong c.in-Err-BadPacket.field-0-0 (ap (λ (f : DecodeFault). Err f) c.in-Err-BadPacket.field-0-is)))
