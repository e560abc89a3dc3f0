use Rattle.std.proofs.Common.{map, Bool, List, refl, ap, ap₂, ◌∙◌}
use Rattle.process_run.specs.States.{Place}
use Rattle.process_run.specs.Runs.{settled_at}
use Rattle.process_ends.specs.Ends.{Ends}
use Rattle.process_ends.proofs.Numbering.{kept_as, numbers_same, numbers_on}
use Rattle.process_ends.proofs.places.Places.look.Goals as goal

pub invariant_of-self-2 : goal.invariant_of-self-2
invariant_of-self-2 c =
    kept_as _ _ _ _ c.self.invariant c.settle.ensures.noted (numbers_on _ _ _ (numbers_same _ _ c.see_room.ensures.same) c.settle.ensures.numbers) refl

pub invariant_of-self : goal.invariant_of-self
invariant_of-self c = kept_as _ _ _ _ c.self.invariant c.see_room.ensures.noted (numbers_same _ _ c.see_room.ensures.same) refl

pub invariant_of-self-in_err-settle : goal.invariant_of-self-in_err-settle
invariant_of-self-in_err-settle c =
    kept_as _ _ _ _ c.self.invariant c.settle.ensures.noted (numbers_on _ _ _ (numbers_same _ _ c.see_room.ensures.same) c.settle.ensures.numbers) refl

pub returns-clause-room : goal.returns-clause-room
returns-clause-room c = c.settle.ensures.room ∙ c.in_ok-see_room.ensures.room

pub returns-clause-settled : goal.returns-clause-settled
returns-clause-settled c =
    c.in_ok-settle.ensures.settled
    ∙ ap₂ (λ (r : Bool) (ps : List Place). map (settled_at r) ps) c.in_ok-see_room.ensures.room (c.see_room.ensures.same ∙ ap (λ (e : Ends). e.places) c.self.view_is)
