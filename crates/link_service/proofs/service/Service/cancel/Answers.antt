-- want of memory is the fault
use Rattle.std.proofs.lemmas.Result.{err_from_is_err_and}
use Rattle.link_service.proofs.service.Service.cancel.Goals as goal

pub returns-in_err-cancel_send-in-Outward-clause-fault : goal.returns-in_err-cancel_send-in-Outward-clause-fault
returns-in_err-cancel_send-in-Outward-clause-fault c = let p = err_from_is_err_and c.from_residual.result c.from_residual.ensures.1 in rw (p.1, p.2) tt
