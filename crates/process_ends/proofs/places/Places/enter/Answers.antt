use Rattle.std.proofs.Common.{arith, List, length, ◌++◌, ◌∷◌, [], refl, sym, ◌+◌, ap, ◌∙◌}
use Rattle.end_protocol.specs.Kept.{fresh}
use Rattle.process_run.specs.States.{Place, Keeps}
use Rattle.process_ends.specs.Ends.{Ends}
use Rattle.process_ends.proofs.Numbering.{kept_as, kept_more, numbers_same, seen_as}
use Rattle.process_ends.proofs.places.Places.enter.Goals as goal

pub push-requires-clause-few : goal.push-requires-clause-few
push-requires-clause-few c = omega (arith, ap (λ (e : Ends). length e.places) c.self.view_is, c.requires.next)

pub invariant_of-self-2 : goal.invariant_of-self-2
invariant_of-self-2 c =
    kept_more _ _ _ _ _ _ _ (kept_as _ _ _ _ c.self.invariant c.self.invariant.noted (numbers_same _ _ refl) c.reserve.ensures.entries)
    c.push.ensures.noted c.in_ok-push.ensures.held refl (c.requires.next ∙ ap (λ (e : Ends). length e.places + 1) (sym c.self.view_is)) c.note_number.ensures

pub invariant_of-self : goal.invariant_of-self
invariant_of-self c = kept_as _ _ _ _ c.self.invariant c.self.invariant.noted (numbers_same _ _ refl) c.reserve.ensures.entries

pub invariant_of-self-in_err-push : goal.invariant_of-self-in_err-push
invariant_of-self-in_err-push c = kept_as _ _ _ _ c.self.invariant c.push.ensures.noted (numbers_same _ _ c.in_err-push.ensures.same) c.reserve.ensures.entries

pub returns : goal.returns
returns c =
    seen_as _ _ _ _ _ (λ (ps : List Place). ps ++ record { end = c.args.end; holding = Keeps fresh } ∷ []) c.self.view_is c.in_ok-push.ensures.held c.push.ensures.room
