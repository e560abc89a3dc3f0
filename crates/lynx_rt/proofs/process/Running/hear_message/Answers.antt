use Rattle.std.proofs.Common.{rules, List, ℕ, refl, subst}
use Rattle.lynx_packets.specs.Packets.{packet_of}
use Rattle.end_protocol.specs.Going.{receive_over}
use Rattle.lynx_rt.specs.Steps.{IsRead}
use Rattle.lynx_rt.proofs.Falling.{process_so}
use Rattle.lynx_rt.proofs.Hearing.{back_with, heard_as, may_come, read_at}
use Rattle.lynx_rt.proofs.process.Running.hear_message.Goals as goal

pub comes_of-requires-clause-process : goal.comes_of-requires-clause-process
comes_of-requires-clause-process c =
    process_so _ _ (back_with c.args.number c.in-Some.kept.value c.in_ok-kept.kept.value c.args.self.now _ _ c.in-Some.ensures.kept c.take.ensures.left c.in_ok-keep.ensures)
    c.requires.process

pub comes_of-requires-clause-may : goal.comes_of-requires-clause-may
comes_of-requires-clause-may c =
    may_come c.args.number c.in-Some.kept.value c.in_ok-kept.kept.value c.in_ok-kept.heard c.args.report.now c.args.self.now _ c.in-Some.ensures.kept
    (heard_as _ _ _ _ (receive_over c.in-Some.kept.value) _ _ c.args.report.now c.args.self.now c.in_ok-kept.ensures (search rules) c.room.ensures c.copy.ensures
    (subst (λ (b : List ℕ). IsRead c.in_ok-packet.packet (packet_of c.args.self.now.version b)) c.as_slice.ensures.same c.in_ok-packet.ensures))
    (back_with c.args.number c.in-Some.kept.value c.in_ok-kept.kept.value c.args.self.now _ _ c.in-Some.ensures.kept c.take.ensures.left c.in_ok-keep.ensures)
    c.requires.may

pub returns-clause-heard : goal.returns-clause-heard
returns-clause-heard c =
    read_at c.args.number c.in-Some.kept.value c.in_ok-kept.kept.value c.in_ok-kept.heard c.args.report.now c.args.self.now _ _ c.in-Some.ensures.kept
    (heard_as _ _ _ _ (receive_over c.in-Some.kept.value) _ _ c.args.report.now c.args.self.now c.in_ok-kept.ensures (search rules) c.room.ensures c.copy.ensures
    (subst (λ (b : List ℕ). IsRead c.in_ok-packet.packet (packet_of c.args.self.now.version b)) c.as_slice.ensures.same c.in_ok-packet.ensures))
    (back_with c.args.number c.in-Some.kept.value c.in_ok-kept.kept.value c.args.self.now _ _ c.in-Some.ensures.kept c.take.ensures.left c.in_ok-keep.ensures)
    c.in_ok-comes_of.ensures.came
