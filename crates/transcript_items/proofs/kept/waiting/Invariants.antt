use Rattle.std.proofs.Common.{◌≡◌}
use Rattle.std.specs.List.{flat_map, range_with_len}
use Rattle.transcript_items.specs.Texts.{ways_to}
use Rattle.transcript_items.proofs.kept.waiting.Given as goal

abbrev pub invariant-loop-to : goal.invariant-loop-to
invariant-loop-to g l = l.ways.items ≡ flat_map (ways_to (g.K.Kernels.kept l.kernels)) (range_with_len 0 l.to)
