use Rattle.std.proofs.Common.{sym, ap, ◌∙◌}
use Rattle.process_ends.specs.Ends.{Ends}
use Rattle.process_ends.proofs.Numbering.{kept_as, numbers_same, first_as}
use Rattle.process_ends.proofs.places.Places.due.Goals as goal

pub invariant_of-self : goal.invariant_of-self
invariant_of-self c = kept_as _ _ _ _ c.self.invariant c.due.ensures.noted (numbers_same _ _ c.due.ensures.same.roster) cc

pub returns-clause-room : goal.returns-clause-room
returns-clause-room c = c.due.ensures.same.room ∙ ap (λ (e : Ends). e.room) c.self.view_is ∙ c.in_ok-look.ensures.room

pub returns-clause-settled : goal.returns-clause-settled
returns-clause-settled c = c.due.ensures.same.roster ∙ ap (λ (e : Ends). e.places) c.self.view_is ∙ c.in_ok-look.ensures.settled

pub returns-clause-first : goal.returns-clause-first
returns-clause-first c =
    first_as c.due.new.self.roster c.due.new.self.room c.args.room c.due.result c.due.ensures.first (sym (c.due.ensures.same.room ∙ ap (λ (e : Ends). e.room) c.self.view_is ∙ c.in_ok-look.ensures.room))
