use Rattle.std.proofs.Common.{ℕ, refl, ap, ◌∙◌}
use Rattle.end_protocol.specs.Kept.{fresh}
use Rattle.process_run.specs.States.{Keeps}
use Rattle.process_run.specs.Ends.{with_holding}
use Rattle.process_ends.specs.Ends.{with_places}
use Rattle.process_ends.proofs.Numbering.{kept_as, numbers_changed, seen_as}
use Rattle.process_ends.proofs.places.Places.hold_again.Goals as goal

pub invariant_of-self : goal.invariant_of-self
invariant_of-self c = kept_as _ _ _ _ c.self.invariant c.hold.ensures.noted (numbers_changed _ _ c.number-number.result (Keeps fresh) c.hold.ensures.held) refl

pub returns : goal.returns
returns c =
    seen_as _ _ _ _ _ (with_holding c.number-number.result (Keeps fresh)) c.self.view_is c.hold.ensures.held c.hold.ensures.room
    ∙ ap (λ (n : ℕ). with_places (with_holding n (Keeps fresh) c.args.self.now.places) c.args.self.now) c.number-number.ensures
