use Rattle.std.proofs.Common.{refl, subst, sym, arith}
use Rattle.end_table.specs.Table.{IsHere, entries}
use Rattle.end_table.specs.Entries.{ended_entry}
use Rattle.end_table.proofs.Holding.{IsKept-ended}
use Rattle.end_table.proofs.Holding.{HoldsMessages-changes}
use Rattle.end_table.proofs.table.Table.end_here.Goals as goal

pub invariant_of-self : goal.invariant_of-self
invariant_of-self c =
    HoldsMessages-changes _ _ c.args.end _ _ (λ q apart. refl) c.self.invariant (let count = c.end_here.ensures.count in let fits = c.self.invariant.room in omega arith)
    (λ v. ended_entry v.value) (λ v is. IsKept-ended c.self.inside.messages c.args.end v.value)
    (subst (λ t. IsHere (entries t c.args.end)) (sym c.self.view_is) (c.requires)) c.end_here.ensures.ended
