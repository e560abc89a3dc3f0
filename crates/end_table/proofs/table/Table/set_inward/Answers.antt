use Rattle.std.proofs.Common.{refl, subst, sym, arith}
use Rattle.end_table.specs.Table.{IsHere, entries}
use Rattle.end_table.specs.declared.entry.Entry.TheVariants.{Here}
use Rattle.end_table.proofs.Holding.{HoldsMessages-changes, IsKept-same}
use Rattle.end_table.proofs.table.Table.set_inward.Goals as goal

pub invariant_of-self : goal.invariant_of-self
invariant_of-self c =
    HoldsMessages-changes _ _ c.args.end _ _ (λ q apart. refl) c.self.invariant (let count = c.set_inward.ensures.count in let fits = c.self.invariant.room in omega arith)
    (λ v. Here (record v { value = c.args.value; inward = c.args.inward })) (λ v is. IsKept-same _ _ c.args.end c.self.invariant v is)
    (subst (λ t. IsHere (entries t c.args.end)) (sym c.self.view_is) (c.requires.here)) c.set_inward.ensures.set
