use Rattle.std.proofs.Common.{◌∙◌, ap, subst, sym}
use Rattle.end_table.specs.Place.{end_eq}
use Rattle.end_table.specs.Table.{HasPlace, IsOfEnd}
use Rattle.end_table.specs.declared.entry.Entry.TheVariants.{Here}
use Rattle.end_table.proofs.Change.{Changes-WritesThrough, HasNoMorePlaces-WritesThrough, Puts-Changes, IsWellKept-Puts, no-HasPlace}
use Rattle.end_table.proofs.places.Places.settle.Goals as goal

pub unreachable-requires : goal.unreachable-requires
unfolding end_eq
unreachable-requires c = no-HasPlace _ _ _ (sym c.in-None.ensures.value) (subst (λ t. HasPlace t c.args.end) (sym c.self.view_is) c.requires.place)

pub invariant_of-self : goal.invariant_of-self
unfolding end_eq
invariant_of-self c =
    IsWellKept-Puts _ _ _ _ c.self.invariant (subst (IsOfEnd c.args.end) (sym (c.here.ensures ∙ ap Here c.settled.ensures)) c.requires.own)
    (Puts-Changes _ _ _ _ _ (Changes-WritesThrough _ _ _ _ _ c.in-Some.ensures.value (c.get_mut.follows.holds c.here.result)))

pub returns-clause-put : goal.returns-clause-put
unfolding end_eq
returns-clause-put c =
    rw (← c.self.view_is, ← c.settled.ensures, ← c.here.ensures)
    (Puts-Changes _ _ _ _ _ (Changes-WritesThrough _ _ _ _ _ c.in-Some.ensures.value (c.get_mut.follows.holds c.here.result)))

pub returns-clause-count : goal.returns-clause-count
unfolding end_eq
returns-clause-count c = rw (← c.self.view_is) (HasNoMorePlaces-WritesThrough c.self.inside.kernel c.self.inside.slots _ c.args.end _ (c.get_mut.follows.holds c.here.result))
