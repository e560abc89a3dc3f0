use Rattle.std.proofs.lemmas.List.Elements.{recursion_from_All}
use Rattle.std.proofs.Common.{subst}
use Rattle.charlotte_packets.specs.Ranges.{IsValueInRange, AreValuesInRange}
use Rattle.kernel_entries.proofs.packet_ranges.tell_cargo.Goals as goal

pub returns : goal.returns
returns c =
    subst AreValuesInRange c.values.ensures.same
    (record { each = recursion_from_All IsValueInRange c.values.result.now c.tell_each_value.ensures; few = c.values.ensures.within })
