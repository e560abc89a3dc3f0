use Rattle.std.proofs.Common.{false, true≢false, subst, sym, ◌↔◌, IsTrue}
use Rattle.end_table.specs.Place.{end_eq}
use Rattle.end_table.specs.Table.{HasLeftUpTo}
use Rattle.end_table.proofs.Change.{entries-some, entries-none}
use Rattle.end_table.proofs.places.Places.has_left_up_to.Goals as goal

pub returns-in-Some : goal.returns-in-Some
unfolding end_eq
returns-in-Some c =
    rw (← c.self.view_is)
    (subst (λ x. IsTrue c.is_left_up_to.result ↔ HasLeftUpTo c.args.upto x) (sym (entries-some _ _ _ _ c.in-Some.ensures.value)) c.is_left_up_to.ensures)

pub returns-in-None : goal.returns-in-None
unfolding end_eq
returns-in-None c =
    rw (← c.self.view_is)
    (subst (λ x. IsTrue false ↔ HasLeftUpTo c.args.upto x) (sym (entries-none _ _ _ c.in-None.ensures.value)) (λ h. absurd (true≢false (sym h)), λ h. absurd h))
