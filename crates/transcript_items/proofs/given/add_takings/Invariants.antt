use Rattle.std.proofs.Common.{◌≡◌}
use Rattle.std.specs.List.{flat_map, range_with_len}
use Rattle.transcript_items.specs.Given.{takings_at}
use Rattle.transcript_shown.specs.Listing.{with_items}
use Rattle.transcript_items.proofs.given.add_takings.Given as goal

abbrev pub invariant-loop-kernel : goal.invariant-loop-kernel
invariant-loop-kernel g l = l.lines ≡ with_items (flat_map (takings_at (g.K.Kernels.kept l.kernels)) (range_with_len 0 l.kernel)) l.fn.lines
