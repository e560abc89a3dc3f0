use Rattle.std.proofs.Common.{refl, subst, sym, arith}
use Rattle.end_table.specs.Table.{IsDestroyed, entries}
use Rattle.end_table.proofs.Holding.{HoldsMessages-marked}
use Rattle.end_table.proofs.table.Table.hint_mark.Goals as goal

pub invariant_of-self : goal.invariant_of-self
invariant_of-self c =
    HoldsMessages-marked _ _ c.args.end _ _ (λ q apart. refl) c.self.invariant (let count = c.hint_mark.ensures.count in let fits = c.self.invariant.room in omega arith)
    (λ m. record m { hint = c.args.hint })
    (subst (λ t. IsDestroyed (entries t c.args.end)) (sym c.self.view_is) c.requires) c.hint_mark.ensures.hinted
