use Rattle.std.proofs.Common.{sym, ◌∙◌, subst, refl}
use Rattle.end_table.specs.Place.{end_eq}
use Rattle.end_table.specs.Table.{IsOfEnd}
use Rattle.end_table.proofs.Change.{entries-some, entries-none, HasPlace-lent}
use Rattle.end_table.proofs.places.Places.lend.Goals as goal

pub returns-in-Some-clause-entry : goal.returns-in-Some-clause-entry
unfolding end_eq
returns-in-Some-clause-entry c =
    rw (← c.self.view_is) (c.lend.ensures ∙ sym (entries-some _ _ _ _ c.in-Some.ensures.value))

pub returns-in-Some-clause-own : goal.returns-in-Some-clause-own
unfolding end_eq
returns-in-Some-clause-own c =
    subst (IsOfEnd c.args.end) (entries-some _ _ _ _ c.in-Some.ensures.value ∙ sym c.lend.ensures) (c.self.invariant.own c.args.end)

pub returns-in-None-clause-entry : goal.returns-in-None-clause-entry
unfolding end_eq
returns-in-None-clause-entry c = rw (← c.self.view_is) (sym (entries-none _ _ _ c.in-None.ensures.value))

pub returns-in-Some-clause-placed : goal.returns-in-Some-clause-placed
unfolding end_eq
returns-in-Some-clause-placed c = rw (← c.self.view_is) (λ some. HasPlace-lent _ _ _ _ c.in-Some.ensures.value)

pub returns-in-None-clause-placed : goal.returns-in-None-clause-placed
returns-in-None-clause-placed c = λ some. absurd (some refl)
