use Rattle.process_ends.proofs.Noting.{noted_idle}
use Rattle.process_ends.proofs.board.Board.strike.Goals as goal

pub returns-clause-noted : goal.returns-clause-noted
returns-clause-noted c = noted_idle _ _ _ _ _ _ _ c.requires.noted c.discard.ensures.others c.requires.idle

pub returns-clause-fewer : goal.returns-clause-fewer
returns-clause-fewer c = c.discard.ensures.fewer c.requires.agenda
