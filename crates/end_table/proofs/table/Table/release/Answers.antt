use Rattle.std.proofs.Common.{◌∙◌}
use Rattle.end_table.proofs.Change.{put-nothing}
use Rattle.end_table.proofs.table.Table.release.Goals as goal

pub returns-then-has_nothing-clause-entries : goal.returns-then-has_nothing-clause-entries
returns-then-has_nothing-clause-entries c =
    c.remove.ensures.after ∙ put-nothing _ _ (rw (← c.self.view_is) (c.has_nothing.ensures.0 c.if-has_nothing.true))
