use Rattle.kernel_worker.proofs.Progress.{all-work}
use Rattle.kernel_worker.proofs.rounds.round.Goals as goal

pub returns-then-are_unspoiled-clause-works : goal.returns-then-are_unspoiled-clause-works
returns-then-are_unspoiled-clause-works g c =
    all-work c.args.nodes.now c.work_each.new.nodes (c.are_unspoiled.ensures.0 c.if-are_unspoiled.true) c.work_each.ensures.works
