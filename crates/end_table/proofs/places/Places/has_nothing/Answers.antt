use Rattle.std.proofs.Common.{◌≡◌, subst, sym, ◌↔◌, IsTrue, true, refl}
use Rattle.end_table.specs.Place.{end_eq}
use Rattle.end_table.specs.declared.entry.Entry.TheVariants.{Nothing}
use Rattle.end_table.proofs.Change.{entries-some, entries-none}
use Rattle.end_table.proofs.places.Places.has_nothing.Goals as goal

pub returns-in-Some : goal.returns-in-Some
unfolding end_eq
returns-in-Some c =
    rw (← c.self.view_is)
    (subst (λ x. IsTrue c.is_nothing.result ↔ (x ≡ Nothing)) (sym (entries-some _ _ _ _ c.in-Some.ensures.value)) c.is_nothing.ensures)

pub returns-in-None : goal.returns-in-None
unfolding end_eq
returns-in-None c =
    rw (← c.self.view_is)
    (subst (λ x. IsTrue true ↔ (x ≡ Nothing)) (sym (entries-none _ _ _ c.in-None.ensures.value)) (λ h. refl, λ h. refl))
