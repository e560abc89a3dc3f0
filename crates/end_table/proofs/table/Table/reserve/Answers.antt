use Rattle.std.proofs.Common.{◌∙◌, true≢false, sym, arith}
use Rattle.end_table.proofs.Change.{entries-opened, entries-no_place}
use Rattle.end_table.proofs.Holding.{HoldsMessages-opened}
use Rattle.end_table.proofs.table.Table.reserve.Goals as goal

pub returns-clause-entries : goal.returns-clause-entries
returns-clause-entries c =
    rw (← c.self.view_is)
    (entries-opened _ _ _ c.open.result c.open.ensures.ok c.open.ensures.same (entries-no_place _ _ (λ has. true≢false (sym (c.has_place.ensures.1 has) ∙ c.if-has_place.false))))

pub invariant_of-self-2 : goal.invariant_of-self-2
invariant_of-self-2 c =
    HoldsMessages-opened _ _ c.args.end _ _ c.open.result c.open.ensures.ok c.open.ensures.same c.reserve.ensures.same
    (let count = c.open.ensures.count in let room = c.in_ok-reserve.ensures.room in let len = c.len.ensures.len in omega arith) c.self.invariant
