use Rattle.std.proofs.lemmas.Result.{on_ok_weaker}
use Rattle.kernel_core.proofs.room.reserve_processes.Goals as goal

pub returns-clause-spare : goal.returns-clause-spare
returns-clause-spare c =
    on_ok_weaker c.reserve_places.result
    (λ place here positive. c.reserve_places.ensures.spare c.args.most (c.in_ok-reserve_reports.ensures.room positive))
    c.reserve_places.ensures.room
