-- The end is noted for its owner, if there is one.
use Rattle.std.proofs.Common.{sym, subst, ◌∙◌}
use Rattle.end_table.specs.Table.{entries}
use Rattle.kernel_process.proofs.OwnersTold.{enlisted-none, enlisted-some}
use Rattle.kernel_process.specs.Active.{Refreshes}
use Rattle.kernel_process.proofs.owners.enlist.Goals as goal

pub returns-in-Some-clause-told : goal.returns-in-Some-clause-told
returns-in-Some-clause-told c = λ t calm told.
    enlisted-some t c.args.end (entries c.args.table.now) calm c.args.processes.now c.refresh.new.processes c.in-Some.p (sym c.owner.ensures ∙ c.in-Some.is) told
    (subst (λ b. Refreshes c.in-Some.p c.args.end b c.args.processes.now c.refresh.new.processes) c.is_active.ensures c.refresh.ensures.active)

pub returns-in-None-clause-told : goal.returns-in-None-clause-told
returns-in-None-clause-told c = λ t calm told. enlisted-none t c.args.end (entries c.args.table.now) calm c.args.processes.now (sym c.owner.ensures ∙ c.in-None.is) told
