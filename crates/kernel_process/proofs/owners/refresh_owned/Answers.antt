-- The end stays with its owner, whose set tells of it again; or it leaves that set, and is noted for another owner.
use Rattle.std.proofs.Common.{subst, ap, ◌∙◌}
use Rattle.end_table.specs.Table.{entries}
use Rattle.kernel_process.specs.Active.{Refreshes}
use Rattle.kernel_process.proofs.OwnersTold.{owned-owner, refreshed-same, released-some}
use Rattle.kernel_step.specs.Calls.{is_active}
use Rattle.kernel_process.proofs.owners.refresh_owned.Goals as goal

pub returns-in-Some-clause-told : goal.returns-in-Some-clause-told
returns-in-Some-clause-told c = λ t before told calm.
    refreshed-same t c.args.end (entries c.args.table.now) calm c.args.processes.now c.refresh.new.processes c.args.p before
    (owned-owner c.args.p (entries c.args.table.now c.args.end) c.in-Some.living.now c.in-Some.ensures.owned) told
    (subst (λ b. Refreshes c.args.p c.args.end b c.args.processes.now c.refresh.new.processes) (c.has_activity.ensures ∙ ap is_active c.in-Some.ensures.owned) c.refresh.ensures.active)

pub returns-in-None-clause-told : goal.returns-in-None-clause-told
returns-in-None-clause-told c = λ t before told calm.
    c.enlist.ensures.told t calm (released-some t c.args.end c.args.processes.now c.forget.new.processes c.args.p before told c.forget.ensures.active)
