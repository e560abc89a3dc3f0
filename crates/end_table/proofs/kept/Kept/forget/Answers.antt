use Rattle.end_table.specs.Place.{end_eq}
use Rattle.end_table.proofs.Keeping.{room-removed, HasAt-none, none_from_is_some, some_not_none}
use Rattle.std.proofs.Common.{sym, ◌∙◌}
use Rattle.end_table.proofs.kept.Kept.forget.Goals as goal

pub returns-then-has-clause-none : goal.returns-then-has-clause-none
unfolding end_eq
returns-then-has-clause-none g c = rw (← c.self.view_is) c.swap_remove.ensures.updates.0

pub returns-then-has-clause-absent : goal.returns-then-has-clause-absent
returns-then-has-clause-absent g c = λ none. absurd (some_not_none _ (sym c.has.ensures ∙ c.if-has.true) none)

pub returns-then-has-clause-room : goal.returns-then-has-clause-room
unfolding end_eq
returns-then-has-clause-room g c = rw (← c.self.view_is) (room-removed c.self.inside.kept c.swap_remove.new.self _ c.swap_remove.ensures.len c.swap_remove.ensures.room.0)

pub returns-else-has-clause-none : goal.returns-else-has-clause-none
returns-else-has-clause-none g c = HasAt-none c.args.self.now c.args.end (none_from_is_some _ (sym c.has.ensures ∙ c.if-has.false))
