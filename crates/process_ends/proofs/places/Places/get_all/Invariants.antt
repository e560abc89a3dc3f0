use Rattle.std.proofs.Common.{◌≡◌, length}
use Rattle.process_run.specs.Ends.{get_all}
use Rattle.process_ends.specs.Ends.{with_places}
use Rattle.process_ends.proofs.places.Places.get_all.Given as goal

abbrev pub invariant-loop-first : goal.invariant-loop-first
invariant-loop-first l = with_places (get_all l.left l.self.places) l.self ≡ with_places (get_all l.ends l.fn.self.places) l.fn.self

abbrev pub decreases-loop-first : goal.decreases-loop-first
decreases-loop-first l = length l.left
