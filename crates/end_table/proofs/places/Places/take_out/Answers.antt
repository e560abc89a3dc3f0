use Rattle.std.proofs.Common.{◌≡◌, subst, sym}
use Rattle.end_table.specs.Entries.{left_entry, left_value}
use Rattle.end_table.specs.Place.{end_eq}
use Rattle.end_table.specs.Table.{IsHere, IfHere, IsOfEnd, entries}
use Rattle.end_table.proofs.Change.{Changes-WritesThrough, HasNoMorePlaces-WritesThrough, Puts-Changes, IsWellKept-Puts, entries-some, entries-none, IfHere-Puts, IsOfEnd-set, IsOfEnd-left, IsHere-idle}
use Rattle.end_table.proofs.places.Places.take_out.Goals as goal

pub leave-requires-clause-here : goal.leave-requires-clause-here
unfolding end_eq
leave-requires-clause-here c =
    subst IsHere (entries-some _ _ _ _ c.in-Some.ensures.value) (subst (λ t. IsHere (entries t c.args.end)) (sym c.self.view_is) (IsHere-idle _ c.requires))

pub unreachable-requires : goal.unreachable-requires
unfolding end_eq
unreachable-requires c =
    subst IsHere (entries-none _ _ _ c.in-None.ensures.value) (subst (λ t. IsHere (entries t c.args.end)) (sym c.self.view_is) (IsHere-idle _ c.requires))

pub invariant_of-self : goal.invariant_of-self
unfolding end_eq
invariant_of-self c =
    let at = entries-some c.self.inside.kernel c.self.inside.slots.entries c.args.end c.in-Some.slot.now c.in-Some.ensures.value in
    IsWellKept-Puts _ _ _ _ c.self.invariant
    (IsOfEnd-set (λ v. left_entry c.args.to v.value) c.in-Some.slot.now c.leave.new.self c.args.end (λ v own. IsOfEnd-left c.args.to v.value c.args.end)
    (subst IsHere at (subst (λ t. IsHere (entries t c.args.end)) (sym c.self.view_is) (IsHere-idle _ c.requires)))
    (subst (IsOfEnd c.args.end) at (c.self.invariant.own c.args.end)) c.leave.ensures.left)
    (Puts-Changes _ _ _ _ _ (Changes-WritesThrough _ _ _ _ _ c.in-Some.ensures.value (c.get_mut.follows.holds c.leave.new.self)))

pub returns-clause-own : goal.returns-clause-own
unfolding end_eq
returns-clause-own c = rw (← c.self.view_is) (c.self.invariant.own c.args.end)

pub returns-clause-value : goal.returns-clause-value
unfolding end_eq
returns-clause-value c =
    let at = entries-some c.self.inside.kernel c.self.inside.slots.entries c.args.end c.in-Some.slot.now c.in-Some.ensures.value in
    subst (λ k. IfHere (entries c.args.self.now c.args.end) (λ v. c.leave.result ≡ left_value k v.value)) c.kernel-kernel.ensures.kernel
    (rw (← c.self.view_is) (subst (λ x. IfHere x (λ v. c.leave.result ≡ left_value c.kernel-kernel.result v.value)) (sym at) c.leave.ensures.value))

pub returns-clause-left : goal.returns-clause-left
unfolding end_eq
returns-clause-left c =
    rw (← c.self.view_is)
    (IfHere-Puts _ _ _ _ _ _ c.in-Some.ensures.value (Changes-WritesThrough _ _ _ _ _ c.in-Some.ensures.value (c.get_mut.follows.holds c.leave.new.self))
    (λ v. left_entry c.args.to v.value) c.leave.ensures.left)

pub returns-clause-count : goal.returns-clause-count
unfolding end_eq
returns-clause-count c = rw (← c.self.view_is) (HasNoMorePlaces-WritesThrough c.self.inside.kernel c.self.inside.slots _ c.args.end _ (c.get_mut.follows.holds c.leave.new.self))
