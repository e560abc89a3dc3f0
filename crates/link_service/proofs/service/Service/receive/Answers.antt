-- want of memory is the fault
use Rattle.std.proofs.lemmas.Result.{err_from_is_err_and}
use Rattle.link_service.proofs.service.Service.receive.Goals as goal

pub returns-in_err-do_receive-clause-fault : goal.returns-in_err-do_receive-clause-fault
returns-in_err-do_receive-clause-fault c = let p = err_from_is_err_and c.from_residual.result c.from_residual.ensures.1 in rw (p.1, p.2) tt
