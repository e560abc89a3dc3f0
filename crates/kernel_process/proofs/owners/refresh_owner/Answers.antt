-- No set told of an end without an owner.
use Rattle.std.proofs.Common.{sym, ◌∙◌}
use Rattle.kernel_process.proofs.OwnersTold.{released-none}
use Rattle.kernel_process.proofs.owners.refresh_owner.Goals as goal

pub returns-in-Some-clause-told : goal.returns-in-Some-clause-told
returns-in-Some-clause-told c = λ t before told calm. c.refresh_owned.ensures.told t (sym c.in-Some.is ∙ before) told calm

pub returns-in-None-clause-told : goal.returns-in-None-clause-told
returns-in-None-clause-told c = λ t before told calm.
    c.enlist.ensures.told t calm (released-none t c.args.end c.args.processes.now (sym c.in-None.is ∙ before) told)
