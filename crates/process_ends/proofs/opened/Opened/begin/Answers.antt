use Rattle.process_ends.proofs.Opening.{within, at_most_one_more, opened_anew}
use Rattle.process_ends.proofs.opened.Opened.begin.Goals as goal

pub overflow_sub-self : goal.overflow_sub-self
overflow_sub-self c = at_most_one_more _ _ _ _ c.args.request c.self.invariant (within _ _ _ c.self.view_is c.requires) c.exchange_at-was.ensures.old

pub invariant_of-self : goal.invariant_of-self
invariant_of-self c =
    opened_anew _ _ _ _ _ c.args.request _ _ c.self.invariant (within _ _ _ c.self.view_is c.requires) c.exchange_at-was.ensures.new c.in_ok-push.ensures.more c.new-stack.ensures
    c.exchange_at-was.ensures.old
