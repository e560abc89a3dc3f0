use Rattle.end_table.proofs.Change.{entries-empty, IsWellKept-empty}
use Rattle.end_table.proofs.places.Places.start.Goals as goal

pub invariant_of-result : goal.invariant_of-result
invariant_of-result c = IsWellKept-empty _ c.requires c.new.ensures.empty

pub returns-clause-empty : goal.returns-clause-empty
returns-clause-empty c = entries-empty _ c.new.ensures.empty
