use Rattle.std.proofs.Common.{◌≡◌, ◌+◌, if◌then◌else◌, length, arith, is_some, ap, ◌∙◌, subst}
use Rattle.end_table.specs.Table.{HasPlace}
use Rattle.end_table.specs.Place.{end_eq}
use Rattle.end_table.proofs.Change.{Clears-Changes, IsWellKept-Clears}
use Rattle.end_table.proofs.places.Places.remove.Goals as goal

pub invariant_of-self : goal.invariant_of-self
unfolding end_eq
invariant_of-self c = IsWellKept-Clears _ _ _ c.self.invariant (Clears-Changes _ _ _ _ c.swap_remove.ensures.updates.0)

pub returns-clause-cleared : goal.returns-clause-cleared
unfolding end_eq
returns-clause-cleared c = rw (← c.self.view_is) (Clears-Changes _ _ _ _ c.swap_remove.ensures.updates.0)

pub returns-clause-count : goal.returns-clause-count
returns-clause-count c = rw (← c.self.view_is) (let len = c.swap_remove.ensures.len in omega arith)

pub returns-clause-fewer : goal.returns-clause-fewer
unfolding end_eq HasPlace
returns-clause-fewer c =
    rw (← c.self.view_is) (λ has. let len = subst (λ b. length c.swap_remove.new.self.entries + (if b then 1 else 0) ≡ length c.self.inside.slots.entries) (ap is_some c.swap_remove.ensures.value ∙ has) c.swap_remove.ensures.len in omega arith)
