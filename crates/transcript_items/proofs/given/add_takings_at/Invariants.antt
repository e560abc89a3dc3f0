use Rattle.std.proofs.Common.{◌≡◌}
use Rattle.std.specs.List.{flat_map, range_with_len}
use Rattle.transcript_items.specs.Given.{takings_from}
use Rattle.transcript_shown.specs.Listing.{with_items}
use Rattle.transcript_items.proofs.given.add_takings_at.Given as goal

abbrev pub invariant-loop-from : goal.invariant-loop-from
invariant-loop-from g l = l.lines ≡ with_items (flat_map (takings_from (g.K.Kernels.kept l.kernels) l.fn.kernel) (range_with_len 0 l.from)) l.fn.lines
