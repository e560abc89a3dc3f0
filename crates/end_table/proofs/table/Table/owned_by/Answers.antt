use Rattle.std.proofs.Common.{subst}
use Rattle.std.specs.List.Sorted.{IsPermutation}
use Rattle.end_table.proofs.Owned.{AreEndsOf-sorted, end_cmp}
use Rattle.end_table.proofs.table.Table.owned_by.Goals as goal

pub returns : goal.returns
unfolding end_cmp
returns c =
    rw (← c.self.view_is)
    (AreEndsOf-sorted _ c.args.p _ c.in_ok-ends.ensures.distinct
    (subst (λ ends. IsPermutation ends c.sort_unstable.new.self.items) c.in_ok-ends.ensures.ends c.sort_unstable.ensures.permutation)
    c.sort_unstable.ensures.sorted)
