use Rattle.std.proofs.Common.{◌≤◌, subst}
use Rattle.std.proofs.lemmas.List.Elements.{recursion_from_All}
use Rattle.charlotte_calls.specs.Ranges.{IsEnd, AreEndsInRange}
use Rattle.kernel_entries.proofs.ranges.tell_ends.Goals as goal

pub returns : goal.returns
returns c =
    subst AreEndsInRange c.as_slice.ensures.same
    (record { each = recursion_from_All IsEnd c.as_slice.result.now c.tell_each_end.ensures; few = c.as_slice.ensures.within })
