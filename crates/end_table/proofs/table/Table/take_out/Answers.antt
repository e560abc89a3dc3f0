use Rattle.std.proofs.Common.{refl, subst, sym, arith}
use Rattle.end_table.specs.Table.{IsHere, entries}
use Rattle.end_table.specs.Entries.{left_entry}
use Rattle.end_table.proofs.Change.{IsHere-idle}
use Rattle.end_table.proofs.Holding.{IsKept-left}
use Rattle.end_table.proofs.Holding.{HoldsMessages-changes}
use Rattle.end_table.proofs.table.Table.take_out.Goals as goal

pub invariant_of-self : goal.invariant_of-self
invariant_of-self c =
    HoldsMessages-changes _ _ c.args.end _ _ (λ q apart. refl) c.self.invariant (let count = c.take_out.ensures.count in let fits = c.self.invariant.room in omega arith)
    (λ v. left_entry c.args.to v.value) (λ v is. IsKept-left c.self.inside.messages c.args.end c.args.to v.value)
    (subst (λ t. IsHere (entries t c.args.end)) (sym c.self.view_is) (IsHere-idle _ c.requires)) c.take_out.ensures.left
