use Rattle.std.proofs.Common.{◌≡◌, ◌++◌}
use Rattle.std.specs.List.{flat_map, range_with_len}
use Rattle.transcript_items.specs.Texts.{way_with_packet}
use Rattle.transcript_items.proofs.kept.add_ways.Given as goal

abbrev pub invariant-loop-from : goal.invariant-loop-from
invariant-loop-from g l = l.ways.items ≡ l.fn.ways.items ++ flat_map (way_with_packet (g.K.Kernels.kept l.kernels) l.fn.to) (range_with_len 0 l.from)
