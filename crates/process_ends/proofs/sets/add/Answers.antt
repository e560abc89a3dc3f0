use Rattle.process_ends.proofs.Members.{grows_put, grows_same, among_put}
use Rattle.process_ends.proofs.sets.add.Goals as goal

pub returns-clause-grows : goal.returns-clause-grows
returns-clause-grows c = grows_put _ _ _ c.in_ok-insert.ensures.updates

pub returns-clause-added : goal.returns-clause-added
returns-clause-added c = among_put _ _ _ c.in_ok-insert.ensures.updates

pub returns-in_err-insert-clause-grows : goal.returns-in_err-insert-clause-grows
returns-in_err-insert-clause-grows c = grows_same _ _ c.in_err-insert.ensures.err
