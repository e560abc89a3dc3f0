use Rattle.std.proofs.Common.{ap}
use Rattle.end_table.specs.Table.{entries}
use Rattle.kernel_start.proofs.Wired.{still_away}
use Rattle.kernel_start.proofs.start.place_both.Goals as goal

-- end b is another end than a
pub place-b_placed-requires : goal.place-b_placed-requires
place-b_placed-requires c =
    still_away c.args.link (entries c.args.table.now) (entries c.place-a_placed.new.table) c.pair-a.result.0.end c.pair-a.result.1.end
    (ap (λ m. m.end) c.pair-a.ensures.a) (ap (λ m. m.end) c.pair-a.ensures.b) c.place-a_placed.ensures.kept.others c.requires.b
