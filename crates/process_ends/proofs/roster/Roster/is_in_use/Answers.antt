use Rattle.process_ends.proofs.Counting.{used_tells}
use Rattle.process_ends.proofs.roster.Roster.is_in_use.Goals as goal

pub returns : goal.returns
returns c = used_tells _ _ _ c.self.invariant.used_is c.self.view_is
