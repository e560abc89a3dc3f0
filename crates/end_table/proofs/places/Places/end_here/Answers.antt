use Rattle.std.proofs.Common.{◌≡◌, subst, sym}
use Rattle.end_table.specs.Entries.{ended_entry}
use Rattle.end_table.specs.Place.{end_eq}
use Rattle.end_table.specs.Table.{IsHere, IfHere, IsOfEnd, entries}
use Rattle.end_table.proofs.Change.{Changes-WritesThrough, HasNoMorePlaces-WritesThrough, Puts-Changes, IsWellKept-Puts, entries-some, entries-none, IfHere-Puts, IsOfEnd-set, IsOfEnd-ended}
use Rattle.end_table.proofs.places.Places.end_here.Goals as goal

pub end-requires : goal.end-requires
unfolding end_eq
end-requires c =
    subst IsHere (entries-some _ _ _ _ c.in-Some.ensures.value) (subst (λ t. IsHere (entries t c.args.end)) (sym c.self.view_is) (c.requires))

pub unreachable-requires : goal.unreachable-requires
unfolding end_eq
unreachable-requires c =
    subst IsHere (entries-none _ _ _ c.in-None.ensures.value) (subst (λ t. IsHere (entries t c.args.end)) (sym c.self.view_is) (c.requires))

pub invariant_of-self : goal.invariant_of-self
unfolding end_eq
invariant_of-self c =
    let at = entries-some c.self.inside.kernel c.self.inside.slots.entries c.args.end c.in-Some.slot.now c.in-Some.ensures.value in
    IsWellKept-Puts _ _ _ _ c.self.invariant
    (IsOfEnd-set (λ v. ended_entry v.value) c.in-Some.slot.now c.end.new.self c.args.end (λ v own. IsOfEnd-ended v.value c.args.end own)
    (subst IsHere at (subst (λ t. IsHere (entries t c.args.end)) (sym c.self.view_is) (c.requires)))
    (subst (IsOfEnd c.args.end) at (c.self.invariant.own c.args.end)) c.end.ensures.ended)
    (Puts-Changes _ _ _ _ _ (Changes-WritesThrough _ _ _ _ _ c.in-Some.ensures.value (c.get_mut.follows.holds c.end.new.self)))

pub returns-clause-own : goal.returns-clause-own
unfolding end_eq
returns-clause-own c = rw (← c.self.view_is) (c.self.invariant.own c.args.end)

pub returns-clause-mark : goal.returns-clause-mark
unfolding end_eq
returns-clause-mark c =
    let at = entries-some c.self.inside.kernel c.self.inside.slots.entries c.args.end c.in-Some.slot.now c.in-Some.ensures.value in
    rw (← c.self.view_is) (subst (λ x. IfHere x (λ v. c.end.result ≡ v.value)) (sym at) c.end.ensures.mark)

pub returns-clause-ended : goal.returns-clause-ended
unfolding end_eq
returns-clause-ended c =
    rw (← c.self.view_is)
    (IfHere-Puts _ _ _ _ _ _ c.in-Some.ensures.value (Changes-WritesThrough _ _ _ _ _ c.in-Some.ensures.value (c.get_mut.follows.holds c.end.new.self))
    (λ v. ended_entry v.value) c.end.ensures.ended)

pub returns-clause-count : goal.returns-clause-count
unfolding end_eq
returns-clause-count c = rw (← c.self.view_is) (HasNoMorePlaces-WritesThrough c.self.inside.kernel c.self.inside.slots _ c.args.end _ (c.get_mut.follows.holds c.end.new.self))
