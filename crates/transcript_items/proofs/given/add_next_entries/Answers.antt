use Rattle.std.specs.List.{flat_map, range_with_len}
use Rattle.transcript_items.specs.Given.{calls_of, next_entries, takings_at}
use Rattle.transcript_shown.proofs.Listings.{items_more}
use Rattle.transcript_items.proofs.given.add_next_entries.Goals as goal

pub returns : goal.returns
unfolding next_entries
returns g c =
    items_more (flat_map (calls_of (g.K.Kernels.kept c.args.kernels.now)) (range_with_len 0 64)) (flat_map (takings_at (g.K.Kernels.kept c.args.kernels.now)) (range_with_len 0 (g.K.Kernels.kept c.args.kernels.now).setting.kernels))
    c.args.lines.now c.add_calls.new.lines c.add_takings.new.lines c.in_ok-add_calls.ensures c.in_ok-add_takings.ensures
