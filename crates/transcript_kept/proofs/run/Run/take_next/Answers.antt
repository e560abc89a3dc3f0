use Rattle.std.proofs.Common.{◌<◌, arith, sym}
use Rattle.kernel_nodes.proofs.Worlds.{from_there}
use Rattle.transcript_kept.proofs.Runs.{takes-next}
use Rattle.transcript_kept.proofs.run.Run.take_next.Goals as goal

pub take_first-requires : goal.take_first-requires
take_first-requires c =
    let s = c.args.self.now.setting in
    let reads = c.if-not-reads_first.ensures in
    let below : c.args.ahead.kernel < s.kernels = omega arith in
    (s, reads.packet, c.requires.run.nodes, from_there s c.args.self.now.nodes.nodes.items c.args.ahead.from c.args.ahead.kernel reads.packet c.requires.run.nodes (sym reads.first), below, reads.first)

pub returns : goal.returns
returns c =
    let s = c.args.self.now.setting in
    let below : c.args.ahead.kernel < s.kernels = omega arith in
    takes-next c.args.ahead c.take_first.new.self c.in_ok-noted.noted c.args.self.now c.note.new.self c.args.reader.now c.reads_first.new.reader c.requires.run below c.if-not-reads_first.ensures
    (record { setting = c.note.ensures.setting; nodes = c.note.ensures.nodes; service = c.note.ensures.service; latest = c.note.ensures.latest; due = c.note.ensures.due; happened = c.in_ok-noted.ensures s c.requires.run.nodes })
