use Rattle.std.proofs.Common.{ℕ, refl, subst}
use Rattle.charlotte_packets.specs.Packets.{what_picture}
use Rattle.transcript_lines.specs.TranscriptText.{HasFewPacket}
use Rattle.transcript_reader.specs.Next.{IsAhead}
use Rattle.transcript_reading.specs.declared.line.LineKind.TheVariants as line
use Rattle.expected_lines.specs.Told.{told_packet}
use Rattle.expected_lines.proofs.Texts.{packet_ahead, read_as}
use Rattle.expected_lines.proofs.reads.reads_packet.Goals as goal

pub pass_line-requires : goal.pass_line-requires
pass_line-requires c = (
  line.PacketEntry c.args.ahead.stamp c.args.ahead.kernel c.args.ahead.from (told_packet (what_picture c.args.packet.now.what)),
  packet_ahead c.args.reader.now c.args.ahead c.args.packet.now c.args.rest.now c.in-Some.left.now
      (subst (λ (v : ℕ). HasFewPacket v (what_picture c.args.packet.now.what)) c.version.ensures (c.if-not-has_few.ensures.0 refl)) c.tell_u64.ensures c.tell_u8.ensures c.tell_u8-2.ensures c.tell_packet.ensures c.requires c.in-Some.ensures,
)

pub returns-in-Some : goal.returns-in-Some
returns-in-Some c =
    let is : IsAhead c.args.reader.now (line.PacketEntry c.args.ahead.stamp c.args.ahead.kernel c.args.ahead.from (told_packet (what_picture c.args.packet.now.what))) c.in-Some.left.now =
    packet_ahead c.args.reader.now c.args.ahead c.args.packet.now c.args.rest.now c.in-Some.left.now
    (subst (λ (v : ℕ). HasFewPacket v (what_picture c.args.packet.now.what)) c.version.ensures (c.if-not-has_few.ensures.0 refl)) c.tell_u64.ensures c.tell_u8.ensures c.tell_u8-2.ensures c.tell_packet.ensures c.requires c.in-Some.ensures in
    read_as c.pass_line.result c.args.reader.now c.pass_line.new.self (line.PacketEntry c.args.ahead.stamp c.args.ahead.kernel c.args.ahead.from (told_packet (what_picture c.args.packet.now.what))) c.in-Some.left.now is c.pass_line.ensures
