use Rattle.std.proofs.Common.{subst, sym}
use Rattle.end_table.specs.Place.{end_eq}
use Rattle.end_table.specs.declared.entry.Entry.TheVariants.{Here}
use Rattle.end_table.specs.Table.{IsHere, IsOfEnd, entries}
use Rattle.end_table.proofs.Change.{Changes-WritesThrough, HasNoMorePlaces-WritesThrough, Puts-Changes, IsWellKept-Puts, entries-some, entries-none, IfHere-Puts, IsOfEnd-set, end-IsOfEnd}
use Rattle.end_table.proofs.places.Places.set_inward.Goals as goal

pub set_inward-requires-clause-here : goal.set_inward-requires-clause-here
unfolding end_eq
set_inward-requires-clause-here c =
    subst IsHere (entries-some _ _ _ _ c.in-Some.ensures.value) (subst (λ t. IsHere (entries t c.args.end)) (sym c.self.view_is) c.requires.here)

pub unreachable-requires : goal.unreachable-requires
unfolding end_eq
unreachable-requires c =
    subst IsHere (entries-none _ _ _ c.in-None.ensures.value) (subst (λ t. IsHere (entries t c.args.end)) (sym c.self.view_is) c.requires.here)

pub set_inward-requires-clause-same_end : goal.set_inward-requires-clause-same_end
unfolding end_eq
set_inward-requires-clause-same_end c =
    end-IsOfEnd _ c.args.end _ (subst (IsOfEnd c.args.end) (entries-some _ _ _ _ c.in-Some.ensures.value) (c.self.invariant.own c.args.end)) c.requires.same_end

pub invariant_of-self : goal.invariant_of-self
unfolding end_eq
invariant_of-self c =
    let at = entries-some c.self.inside.kernel c.self.inside.slots.entries c.args.end c.in-Some.slot.now c.in-Some.ensures.value in
    IsWellKept-Puts _ _ _ _ c.self.invariant
    (IsOfEnd-set (λ v. Here (record v { value = c.args.value; inward = c.args.inward })) c.in-Some.slot.now c.set_inward.new.self c.args.end (λ v own. c.requires.same_end)
    (subst IsHere at (subst (λ t. IsHere (entries t c.args.end)) (sym c.self.view_is) c.requires.here))
    (subst (IsOfEnd c.args.end) at (c.self.invariant.own c.args.end)) c.set_inward.ensures)
    (Puts-Changes _ _ _ _ _ (Changes-WritesThrough _ _ _ _ _ c.in-Some.ensures.value (c.get_mut.follows.holds c.set_inward.new.self)))

pub returns-clause-set : goal.returns-clause-set
unfolding end_eq
returns-clause-set c =
    rw (← c.self.view_is)
    (IfHere-Puts _ _ _ _ _ _ c.in-Some.ensures.value (Changes-WritesThrough _ _ _ _ _ c.in-Some.ensures.value (c.get_mut.follows.holds c.set_inward.new.self))
    (λ v. Here (record v { value = c.args.value; inward = c.args.inward })) c.set_inward.ensures)

pub returns-clause-count : goal.returns-clause-count
unfolding end_eq
returns-clause-count c = rw (← c.self.view_is) (HasNoMorePlaces-WritesThrough c.self.inside.kernel c.self.inside.slots _ c.args.end _ (c.get_mut.follows.holds c.set_inward.new.self))
