use Rattle.std.proofs.Common.{refl, subst, sym, arith}
use Rattle.end_table.specs.Table.{IsHere, entries}
use Rattle.end_table.specs.declared.entry.Entry.TheVariants.{Here}
use Rattle.end_table.specs.Entries.{learned}
use Rattle.end_table.proofs.Holding.{HoldsMessages-changes, IsKept-same}
use Rattle.end_table.proofs.table.Table.hint.Goals as goal

pub invariant_of-self : goal.invariant_of-self
invariant_of-self c =
    HoldsMessages-changes _ _ c.args.end _ _ (λ q apart. refl) c.self.invariant (let count = c.hint.ensures.count in let fits = c.self.invariant.room in omega arith)
    (λ v. Here (record v { value = learned c.args.kernel c.args.hops v.value })) (λ v is. IsKept-same _ _ c.args.end c.self.invariant v is)
    (subst (λ t. IsHere (entries t c.args.end)) (sym c.self.view_is) (c.requires)) c.hint.ensures.learned
