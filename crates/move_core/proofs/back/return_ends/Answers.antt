use Rattle.move_core.proofs.Arrivals.{AreAway-kept}
use Rattle.move_core.proofs.back.return_ends.Goals as goal

pub settle_and_tell-requires-clause-away : goal.settle_and_tell-requires-clause-away
settle_and_tell-requires-clause-away c =
    let puts = rw c.here-living.ensures.view at c.keep_sending.ensures.puts in
    AreAway-kept _ _ _ _ puts c.args.moving c.requires.here c.requires.away
