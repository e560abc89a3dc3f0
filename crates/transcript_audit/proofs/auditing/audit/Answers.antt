use Rattle.std.proofs.lemmas.Result.{err_from_is_err_and}
use Rattle.transcript_audit.proofs.Taken.{differing, differing-bad}
use Rattle.transcript_audit.proofs.auditing.audit.Goals as goal

pub returns-in_err-read_rest-in-Err-Differs-clause-fault : goal.returns-in_err-read_rest-in-Err-Differs-clause-fault
returns-in_err-read_rest-in-Err-Differs-clause-fault c =
    let p = err_from_is_err_and c.from_residual.result c.from_residual.ensures.1 in
    rw (p.1, p.2) (differing-bad c.args.bytes.now c.replay_lines.new.reader c.in-Err-Differs.line c.in_err-read_rest-in-Err-Differs.field-0.0 (rw c.in-Err-Differs.field-0-is at c.in-Err-Differs.ensures.halted c.args.bytes.now c.new-reader.ensures) c.in_err-read_rest-in-Err-Differs.ensures.fault)

pub returns-in_ok-read_rest-in-Err-Differs-clause-fault : goal.returns-in_ok-read_rest-in-Err-Differs-clause-fault
returns-in_ok-read_rest-in-Err-Differs-clause-fault c =
    differing c.args.bytes.now c.replay_lines.new.reader c.in-Err-Differs.line (rw c.in-Err-Differs.field-0-is at c.in-Err-Differs.ensures.halted c.args.bytes.now c.new-reader.ensures) c.in_ok-read_rest-in-Err-Differs.ensures.lines
