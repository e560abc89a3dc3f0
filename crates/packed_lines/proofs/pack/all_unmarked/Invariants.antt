use Rattle.std.proofs.Common.{◌≡◌, take}
use Rattle.std.specs.List.{list_all}
use Rattle.packed_lines.specs.Packed.{is_unmarked}
use Rattle.packed_lines.proofs.pack.all_unmarked.Given as goal

abbrev pub invariant-loop-byte : goal.invariant-loop-byte
invariant-loop-byte l = l.all ≡ list_all is_unmarked (take l.byte-index l.line)
