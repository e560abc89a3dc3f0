use Rattle.std.proofs.Common.{IsOk, refl, sym, subst, arith}
use Rattle.end_table.specs.Table.{HasPlace}
use Rattle.end_table.proofs.Holding.{HoldsMessages-Puts}
use Rattle.end_table.proofs.table.Table.install.Goals as goal

pub invariant_of-self : goal.invariant_of-self
invariant_of-self c =
    HoldsMessages-Puts _ _ c.end-end.result _ _ (λ q apart. refl) c.self.invariant (let count = c.settle.ensures.count in let fits = c.self.invariant.room in omega arith)
    _ c.settle.ensures.put tt

pub returns-in-Err-clause-succeeds : goal.returns-in-Err-clause-succeeds
returns-in-Err-clause-succeeds c = λ place. subst IsOk c.in-Err.is (c.reserve.ensures.succeeds (subst (HasPlace c.args.self.now) (sym c.end-end.ensures) place))
