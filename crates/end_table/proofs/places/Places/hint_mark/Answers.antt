use Rattle.std.proofs.Common.{subst, sym}
use Rattle.end_table.specs.Place.{end_eq}
use Rattle.end_table.specs.declared.entry.Entry.TheVariants.{Destroyed}
use Rattle.end_table.specs.Table.{IsDestroyed, IsOfEnd, entries}
use Rattle.end_table.proofs.Change.{Changes-WritesThrough, HasNoMorePlaces-WritesThrough, Puts-Changes, IsWellKept-Puts, entries-some, entries-none, IfDestroyed-Puts, IsOfEnd-hinted}
use Rattle.end_table.proofs.places.Places.hint_mark.Goals as goal

pub set_hint-requires : goal.set_hint-requires
unfolding end_eq
set_hint-requires c =
    subst IsDestroyed (entries-some _ _ _ _ c.in-Some.ensures.value) (subst (λ t. IsDestroyed (entries t c.args.end)) (sym c.self.view_is) c.requires)

pub unreachable-requires : goal.unreachable-requires
unfolding end_eq
unreachable-requires c =
    subst IsDestroyed (entries-none _ _ _ c.in-None.ensures.value) (subst (λ t. IsDestroyed (entries t c.args.end)) (sym c.self.view_is) c.requires)

pub invariant_of-self : goal.invariant_of-self
unfolding end_eq
invariant_of-self c =
    let at = entries-some c.self.inside.kernel c.self.inside.slots.entries c.args.end c.in-Some.slot.now c.in-Some.ensures.value in
    IsWellKept-Puts _ _ _ _ c.self.invariant
    (IsOfEnd-hinted c.in-Some.slot.now c.set_hint.new.self c.args.end c.args.hint
    (subst IsDestroyed at (subst (λ t. IsDestroyed (entries t c.args.end)) (sym c.self.view_is) c.requires))
    (subst (IsOfEnd c.args.end) at (c.self.invariant.own c.args.end)) c.set_hint.ensures)
    (Puts-Changes _ _ _ _ _ (Changes-WritesThrough _ _ _ _ _ c.in-Some.ensures.value (c.get_mut.follows.holds c.set_hint.new.self)))

pub returns-clause-hinted : goal.returns-clause-hinted
unfolding end_eq
returns-clause-hinted c =
    rw (← c.self.view_is)
    (IfDestroyed-Puts _ _ _ _ _ _ c.in-Some.ensures.value (Changes-WritesThrough _ _ _ _ _ c.in-Some.ensures.value (c.get_mut.follows.holds c.set_hint.new.self))
    (λ m. Destroyed (record m { hint = c.args.hint })) c.set_hint.ensures)

pub returns-clause-own : goal.returns-clause-own
unfolding end_eq
returns-clause-own c = rw (← c.self.view_is) (c.self.invariant.own c.args.end)

pub returns-clause-count : goal.returns-clause-count
unfolding end_eq
returns-clause-count c = rw (← c.self.view_is) (HasNoMorePlaces-WritesThrough c.self.inside.kernel c.self.inside.slots _ c.args.end _ (c.get_mut.follows.holds c.set_hint.new.self))
