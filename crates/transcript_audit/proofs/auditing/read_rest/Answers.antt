use Rattle.std.proofs.lemmas.Result.{err_from_is_err_and}
use Rattle.transcript_audit.proofs.Taken.{reading-ends, reading-fails, reading-more, reading-start}
use Rattle.transcript_reader.proofs.Clauses.{next_some}
use Rattle.transcript_audit.proofs.auditing.read_rest.Goals as goal

pub loop-init : goal.loop-init
loop-init c = reading-start c.args.reader.now

pub returns-in_err-skip_line-clause-fault : goal.returns-in_err-skip_line-clause-fault
returns-in_err-skip_line-clause-fault c =
    let p = err_from_is_err_and c.from_residual.result c.from_residual.ensures.1 in
    rw (p.1, p.2) (reading-fails c.args.reader.now c.loop.reader c.skip_line.new.self c.in_err-skip_line.field-0.0 c.loop.invariant c.in_err-skip_line.ensures)

pub loop-smaller : goal.loop-smaller
loop-smaller c = let is = rw c.if-branch.true at c.in_ok-skip_line.ensures in (next_some c.loop.reader c.skip_line.new.self is.0 is.1).1

pub loop-preserved : goal.loop-preserved
loop-preserved c =
    let is = rw c.if-branch.true at c.in_ok-skip_line.ensures in
    reading-more c.args.reader.now c.loop.reader c.skip_line.new.self is.0 c.loop.invariant is.1

pub returns-clause-lines : goal.returns-clause-lines
returns-clause-lines c =
    let is = rw c.if-branch.false at c.in_ok-skip_line.ensures in
    reading-ends c.args.reader.now c.loop.reader c.loop.invariant is.0
