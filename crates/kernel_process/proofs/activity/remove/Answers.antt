-- Nothing is taken out of a set that has nothing.
use Rattle.kernel_process.proofs.ActiveSets.{none-removed}
use Rattle.kernel_process.proofs.activity.remove.Goals as goal

pub returns-else-not-is_empty-clause-keys : goal.returns-else-not-is_empty-clause-keys
returns-else-not-is_empty-clause-keys c = λ e. none-removed c.args.active.now.keys c.args.end e (c.is_empty.ensures.0 c.if-not-is_empty.false)
