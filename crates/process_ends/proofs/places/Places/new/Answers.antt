use Rattle.process_ends.proofs.Numbering.{kept_none}
use Rattle.process_ends.proofs.places.Places.new.Goals as goal

pub invariant_of-result : goal.invariant_of-result
invariant_of-result c = kept_none _ _ c.new.ensures.noted (cc) (cc)
