use Rattle.std.proofs.Common.{◌≡◌, subst, sym}
use Rattle.end_table.specs.Entries.{learned, is_news}
use Rattle.end_table.specs.Place.{end_eq}
use Rattle.end_table.specs.declared.entry.Entry.TheVariants.{Here}
use Rattle.end_table.specs.Table.{IsHere, IfHere, IsOfEnd, entries}
use Rattle.end_table.proofs.Change.{Changes-WritesThrough, HasNoMorePlaces-WritesThrough, Puts-Changes, IsWellKept-Puts, entries-some, entries-none, IfHere-Puts, IsOfEnd-learned}
use Rattle.end_table.proofs.places.Places.hint.Goals as goal

pub learn-requires : goal.learn-requires
unfolding end_eq
learn-requires c =
    subst IsHere (entries-some _ _ _ _ c.in-Some.ensures.value) (subst (λ t. IsHere (entries t c.args.end)) (sym c.self.view_is) c.requires)

pub unreachable-requires : goal.unreachable-requires
unfolding end_eq
unreachable-requires c =
    subst IsHere (entries-none _ _ _ c.in-None.ensures.value) (subst (λ t. IsHere (entries t c.args.end)) (sym c.self.view_is) c.requires)

pub invariant_of-self : goal.invariant_of-self
unfolding end_eq
invariant_of-self c =
    let at = entries-some c.self.inside.kernel c.self.inside.slots.entries c.args.end c.in-Some.slot.now c.in-Some.ensures.value in
    IsWellKept-Puts _ _ _ _ c.self.invariant
    (IsOfEnd-learned c.in-Some.slot.now c.learn.new.self c.args.end c.args.kernel c.args.hops
    (subst IsHere at (subst (λ t. IsHere (entries t c.args.end)) (sym c.self.view_is) c.requires))
    (subst (IsOfEnd c.args.end) at (c.self.invariant.own c.args.end)) c.learn.ensures.learned)
    (Puts-Changes _ _ _ _ _ (Changes-WritesThrough _ _ _ _ _ c.in-Some.ensures.value (c.get_mut.follows.holds c.learn.new.self)))

pub returns-clause-news : goal.returns-clause-news
unfolding end_eq
returns-clause-news c =
    let at = entries-some c.self.inside.kernel c.self.inside.slots.entries c.args.end c.in-Some.slot.now c.in-Some.ensures.value in
    rw (← c.self.view_is) (subst (λ x. IfHere x (λ v. c.learn.result ≡ is_news v.value c.args.hops)) (sym at) c.learn.ensures.news)

pub returns-clause-learned : goal.returns-clause-learned
unfolding end_eq
returns-clause-learned c =
    rw (← c.self.view_is)
    (IfHere-Puts _ _ _ _ _ _ c.in-Some.ensures.value (Changes-WritesThrough _ _ _ _ _ c.in-Some.ensures.value (c.get_mut.follows.holds c.learn.new.self))
    (λ v. Here (record v { value = learned c.args.kernel c.args.hops v.value })) c.learn.ensures.learned)

pub returns-clause-own : goal.returns-clause-own
unfolding end_eq
returns-clause-own c = rw (← c.self.view_is) (c.self.invariant.own c.args.end)

pub returns-clause-count : goal.returns-clause-count
unfolding end_eq
returns-clause-count c = rw (← c.self.view_is) (HasNoMorePlaces-WritesThrough c.self.inside.kernel c.self.inside.slots _ c.args.end _ (c.get_mut.follows.holds c.learn.new.self))
