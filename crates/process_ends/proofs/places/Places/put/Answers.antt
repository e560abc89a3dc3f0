use Rattle.std.proofs.Common.{refl}
use Rattle.process_run.specs.States.{Keeps}
use Rattle.process_run.specs.Ends.{with_holding}
use Rattle.process_ends.proofs.Numbering.{kept_as, numbers_changed, numbers_same, seen_as}
use Rattle.process_ends.proofs.places.Places.put.Goals as goal

pub invariant_of-self-2 : goal.invariant_of-self-2
invariant_of-self-2 c = kept_as _ _ _ _ c.self.invariant c.put.ensures.noted (numbers_changed _ _ c.args.number (Keeps c.args.kept.value) c.in_ok-put.ensures.kept) refl

pub invariant_of-self : goal.invariant_of-self
invariant_of-self c = kept_as _ _ _ _ c.self.invariant c.put.ensures.noted (numbers_same _ _ c.in_err-put.ensures.same) refl

pub returns : goal.returns
returns c = seen_as _ _ _ _ _ (with_holding c.args.number (Keeps c.args.kept.value)) c.self.view_is c.in_ok-put.ensures.kept c.put.ensures.room
