use Rattle.process_ends.proofs.Opening.{within, opened_push}
use Rattle.process_ends.proofs.opened.Opened.push.Goals as goal

pub invariant_of-self-2 : goal.invariant_of-self-2
invariant_of-self-2 c = opened_push _ _ _ _ _ c.self.invariant (within _ _ _ c.self.view_is c.requires) c.in_ok-push_at.ensures.more
