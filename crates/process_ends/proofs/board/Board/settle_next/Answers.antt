use Rattle.process_ends.proofs.Noting.{noted_calm, calm_as, fewer_as}
use Rattle.process_ends.proofs.board.Board.settle_next.Goals as goal

pub returns-clause-noted : goal.returns-clause-noted
returns-clause-noted c =
    noted_calm _ _ _ _ _ _ _ c.settle_at.ensures.noted c.discard.ensures.others (calm_as _ _ _ _ c.settle_at.ensures.room c.in_ok-settle_at.ensures.calm)

pub returns-clause-fewer : goal.returns-clause-fewer
returns-clause-fewer c = fewer_as _ _ _ _ c.settle_at.ensures.unsettled c.requires.unsettled c.discard.ensures.fewer
