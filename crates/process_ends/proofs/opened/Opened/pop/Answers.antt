use Rattle.std.proofs.Common.{sym, ◌∙◌}
use Rattle.process_ends.proofs.Opening.{within, some_open, opened_pop, opened_empty}
use Rattle.process_ends.proofs.opened.Opened.pop.Goals as goal

pub overflow_sub-self : goal.overflow_sub-self
overflow_sub-self c = some_open _ _ _ c.self.invariant (within _ _ _ c.self.view_is c.requires) (sym c.pop_at.ensures.was ∙ c.if-pop_at.true)

pub invariant_of-self : goal.invariant_of-self
invariant_of-self c = opened_pop _ _ _ _ c.self.invariant (within _ _ _ c.self.view_is c.requires) c.pop_at.ensures.left (sym c.pop_at.ensures.was ∙ c.if-pop_at.true)

pub invariant_of-self-else-pop_at : goal.invariant_of-self-else-pop_at
invariant_of-self-else-pop_at c =
    opened_empty _ _ _ _ c.self.invariant (within _ _ _ c.self.view_is c.requires) c.pop_at.ensures.left (sym c.pop_at.ensures.was ∙ c.if-pop_at.false)
