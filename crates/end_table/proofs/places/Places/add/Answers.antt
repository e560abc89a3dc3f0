use Rattle.end_table.specs.Place.{end_eq}
use Rattle.end_table.proofs.Change.{one_at_most, Puts-nothing, IsWellKept-Puts}
use Rattle.end_table.proofs.places.Places.add.Goals as goal

pub invariant_of-self : goal.invariant_of-self
unfolding end_eq
invariant_of-self c =
    IsWellKept-Puts _ _ _ _ c.self.invariant tt (Puts-nothing _ _ _ _ _ c.nothing.ensures c.in-Ok.ensures.updates.0)

pub returns-in-Ok-clause-ok : goal.returns-in-Ok-clause-ok
unfolding end_eq
returns-in-Ok-clause-ok c = rw (← c.self.view_is) (Puts-nothing _ _ _ _ _ c.nothing.ensures c.in-Ok.ensures.updates.0)

pub returns-in-Ok-clause-count : goal.returns-in-Ok-clause-count
returns-in-Ok-clause-count c = rw (← c.self.view_is) (one_at_most _ _ _ c.in-Ok.ensures.len)
