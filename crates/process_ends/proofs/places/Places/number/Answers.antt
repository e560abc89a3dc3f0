use Rattle.std.proofs.Common.{ap}
use Rattle.charlotte_calls.specs.EndEq.{end_eq}
use Rattle.process_ends.specs.Ends.{Ends}
use Rattle.process_ends.proofs.Numbering.{number_found, number_missing}
use Rattle.process_ends.proofs.places.Places.number.Goals as goal

pub returns-in-Some : goal.returns-in-Some
unfolding end_eq
returns-in-Some c = number_found _ _ _ c.args.end _ c.self.invariant.numbered c.in-Some.ensures.value (ap (λ (e : Ends). e.places) c.self.view_is)

pub returns-in-None : goal.returns-in-None
unfolding end_eq
returns-in-None c = number_missing _ _ _ c.args.end c.self.invariant.numbered c.in-None.ensures.value (ap (λ (e : Ends). e.places) c.self.view_is)
