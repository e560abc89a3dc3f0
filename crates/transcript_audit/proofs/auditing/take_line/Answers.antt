use Rattle.std.proofs.lemmas.Result.{err_from_is_err_and}
use Rattle.transcript_audit.proofs.Taken.{line-bad, line-differs, line-none, line-taken}
use Rattle.transcript_reader.proofs.Clauses.{next_follows}
use Rattle.transcript_audit.proofs.auditing.take_line.Goals as goal

pub returns-in_err-line-clause-halted : goal.returns-in_err-line-clause-halted
returns-in_err-line-clause-halted c =
    let p = err_from_is_err_and c.from_residual.result c.from_residual.ensures.1 in
    rw (p.1, p.2) (λ taken at. line-bad taken c.args.reader.now c.next_line.new.self c.in_err-line.field-0.0 c.in_err-line.ensures)

pub take-requires : goal.take-requires
take-requires c = (
  c.requires.0,
  c.args.reader.now.place,
  c.next_line.new.self.place,
  c.requires.1,
  next_follows c.args.reader.now c.next_line.new.self c.in-Some.line (rw c.in-Some.is at c.in_ok-line.ensures),
)

pub returns-in_err-take-in-Some-clause-halted : goal.returns-in_err-take-in-Some-clause-halted
returns-in_err-take-in-Some-clause-halted c =
    let p = err_from_is_err_and c.from_residual-in_err-take-in-Some.result c.from_residual-in_err-take-in-Some.ensures.1 in
    rw (p.1, p.2) (λ taken at. line-differs taken c.args.reader.now c.next_line.new.self c.in-Some.line c.args.replay.now c.in_err-take-in-Some.field-0.0 (rw c.in-Some.is at c.in_ok-line.ensures) at c.in_err-take-in-Some.ensures.fault)

pub returns-in_ok-take-in-Some-clause-taken : goal.returns-in_ok-take-in-Some-clause-taken
returns-in_ok-take-in-Some-clause-taken c taken at = line-taken taken c.args.reader.now c.next_line.new.self c.in-Some.line c.args.replay.now c.take.new.self (rw c.in-Some.is at c.in_ok-line.ensures) at c.in_ok-take-in-Some.ensures.taken

pub returns-in-None-clause-taken : goal.returns-in-None-clause-taken
returns-in-None-clause-taken c taken at = line-none taken c.args.reader.now c.next_line.new.self c.args.replay.now (rw c.in-None.is at c.in_ok-line.ensures) at
