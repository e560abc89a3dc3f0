use Rattle.process_ends.proofs.Opening.{within, opened_answered}
use Rattle.process_ends.proofs.opened.Opened.answer.Goals as goal

pub invariant_of-self : goal.invariant_of-self
invariant_of-self c = opened_answered _ _ _ _ c.self.invariant (within _ _ _ c.self.view_is c.requires) c.answer_at.ensures
