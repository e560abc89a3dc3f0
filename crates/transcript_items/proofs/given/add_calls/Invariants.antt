use Rattle.std.proofs.Common.{◌≡◌}
use Rattle.std.specs.List.{flat_map, range_with_len}
use Rattle.transcript_items.specs.Given.{calls_of}
use Rattle.transcript_shown.specs.Listing.{with_items}
use Rattle.transcript_items.proofs.given.add_calls.Given as goal

abbrev pub invariant-loop-number : goal.invariant-loop-number
invariant-loop-number g l = l.lines ≡ with_items (flat_map (calls_of (g.K.Kernels.kept l.kernels)) (range_with_len 0 l.number)) l.fn.lines
