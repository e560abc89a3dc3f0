use Rattle.std.proofs.lemmas.Result.{err_from_is_err_and}
use Rattle.transcript_reader.specs.Lines.{lines_read}
use Rattle.transcript_reader.proofs.Clauses.{next_some, line_goes_on, gives_fault, gives_all}
use Rattle.transcript_reader.proofs.read.read_lines.Goals as goal

pub returns-in_err-line : goal.returns-in_err-line
returns-in_err-line c =
    let p = err_from_is_err_and c.from_residual.result c.from_residual.ensures.1 in
    rw (p.1, p.2) (gives_fault c.loop-lines.lines.items c.loop-lines.reader c.next_line.new.self c.in_err-line.field-0.0 (lines_read c.args.bytes.now) c.in_err-line.ensures c.loop-lines.invariant)

pub loop-lines-smaller : goal.loop-lines-smaller
loop-lines-smaller c = (next_some c.loop-lines.reader c.next_line.new.self c.in-Some.line (rw c.in-Some.is at c.in_ok-line.ensures)).1

pub loop-lines-preserved : goal.loop-lines-preserved
loop-lines-preserved c =
    rw c.in_ok-push.ensures.items (line_goes_on c.loop-lines.lines.items c.in-Some.line c.loop-lines.reader c.next_line.new.self (lines_read c.args.bytes.now) (rw c.in-Some.is at c.in_ok-line.ensures) c.loop-lines.invariant)

pub returns : goal.returns
returns c = gives_all c.loop-lines.lines.items c.loop-lines.reader c.next_line.new.self c.in_ok-line.field-0 (lines_read c.args.bytes.now) c.in_default.not-Some c.in_ok-line.ensures c.loop-lines.invariant
