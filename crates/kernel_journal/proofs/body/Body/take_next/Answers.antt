use Rattle.std.proofs.Common.{◌<◌, arith}
use Rattle.std.proofs.lemmas.Result.{err_from_is_err_and}
use Rattle.transcript_reading.specs.declared.line.LineKind.TheVariants as line
use Rattle.expected_lines.specs.Told.{told_packet}
use Rattle.kernel_journal.proofs.Taken.{stands}
use Rattle.kernel_journal.proofs.body.Body.take_next.Goals as goal

pub take_first-requires-clause-waits : goal.take_first-requires-clause-waits
take_first-requires-clause-waits c =
    let first = c.if-not-reads_first.ensures c.args.self.now.setting c.requires.ready.nodes in
    let below : c.args.ahead.kernel < c.args.self.now.setting.kernels = omega arith in (
      first.what,
      (below, first.first),
    )

pub returns-in_err-take_first-clause-stands : goal.returns-in_err-take_first-clause-stands
returns-in_err-take_first-clause-stands c =
    let first = c.if-not-reads_first.ensures c.args.self.now.setting c.requires.ready.nodes in
    let below : c.args.ahead.kernel < c.args.self.now.setting.kernels = omega arith in
    let p = err_from_is_err_and c.from_residual.result c.from_residual.ensures.1 in
    rw (p.1, p.2) (stands c.args.self.now c.args.reader.now _ (line.PacketEntry c.args.ahead.stamp c.args.ahead.kernel c.args.ahead.from (told_packet first.what)) c.in_err-take_first.field-0.0 first.read (c.in_err-take_first.ensures.differs first.what (below, first.first)))

pub returns-clause-took : goal.returns-clause-took
returns-clause-took c =
    let first = c.if-not-reads_first.ensures c.args.self.now.setting c.requires.ready.nodes in
    let below : c.args.ahead.kernel < c.args.self.now.setting.kernels = omega arith in
    record {
      kind = line.PacketEntry c.args.ahead.stamp c.args.ahead.kernel c.args.ahead.from (told_packet first.what);
      read = first.read;
      ready = c.in_ok-take_first.ensures.ready;
      goes = c.in_ok-take_first.ensures.leads first.what (below, first.first);
    }
