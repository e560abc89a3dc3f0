use Rattle.std.proofs.lemmas.List.Elements.{recursion_from_All}
use Rattle.std.proofs.Common.{subst}
use Rattle.charlotte_packets.specs.Ranges.{IsValueInRange, AreValuesInRange}
use Rattle.kernel_entries.proofs.ranges.tell_values.Goals as goal

pub returns : goal.returns
returns c =
    subst AreValuesInRange c.as_slice.ensures.same
    (record { each = recursion_from_All IsValueInRange c.as_slice.result.now c.tell_each_value.ensures; few = c.as_slice.ensures.within })
