-- The service was not started, or the step is not allowed.
use Rattle.std.proofs.lemmas.Result.{err_from_is_err_and}
use Rattle.history_run.proofs.Stepping.{not_begun, not_made}
use Rattle.history_run.proofs.history.History.step.Goals as goal

pub returns-in_err-begin-clause-fault : goal.returns-in_err-begin-clause-fault
returns-in_err-begin-clause-fault c =
    let p = err_from_is_err_and c.from_residual.result c.from_residual.ensures.1 in
    rw (p.1, p.2) (not_begun c.args.self.now c.args.self.now.act c.in_err-begin.field-0.0 c.in_err-begin.ensures.fault)

pub returns-in_err-make-clause-fault : goal.returns-in_err-make-clause-fault
returns-in_err-make-clause-fault c =
    let p = err_from_is_err_and c.from_residual-in_err-make.result c.from_residual-in_err-make.ensures.1 in
    rw (p.1, p.2) (not_made c.args.self.now c.begin.new.self c.in_err-make.field-0.0 c.in_ok-begin.ensures.ok c.in_err-make.ensures.fault)
