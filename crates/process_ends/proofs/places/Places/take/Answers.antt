use Rattle.std.proofs.Common.{refl, ap, ◌∙◌, false}
use Rattle.process_run.specs.States.{Gone}
use Rattle.process_run.specs.Ends.{with_holding}
use Rattle.process_ends.specs.Ends.{Ends, kept_at}
use Rattle.process_ends.proofs.Numbering.{kept_as, numbers_changed, seen_as}
use Rattle.process_ends.proofs.places.Places.take.Goals as goal

pub invariant_of-self : goal.invariant_of-self
invariant_of-self c = kept_as _ _ _ _ c.self.invariant c.take.ensures.noted (numbers_changed _ _ c.args.number (Gone false) c.take.ensures.left) refl

pub returns-clause-left : goal.returns-clause-left
returns-clause-left c = seen_as _ _ _ _ _ (with_holding c.args.number (Gone false)) c.self.view_is c.take.ensures.left c.take.ensures.room

pub returns-clause-kept : goal.returns-clause-kept
returns-clause-kept c = c.take.ensures.kept ∙ ap (λ (e : Ends). kept_at c.args.number e.places) c.self.view_is
