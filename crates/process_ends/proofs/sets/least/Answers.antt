use Rattle.process_ends.proofs.Members.{none_below, none_among}
use Rattle.process_ends.proofs.sets.least.Goals as goal

pub returns-in-Some-clause-below : goal.returns-in-Some-clause-below
returns-in-Some-clause-below c = none_below _ _ c.in-Some.ensures.least

pub returns-in-None-clause-none : goal.returns-in-None-clause-none
returns-in-None-clause-none c = none_among _ _ c.in-None.is c.first.ensures.variant
