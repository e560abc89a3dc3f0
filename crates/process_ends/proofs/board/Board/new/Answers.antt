use Rattle.process_ends.proofs.Noting.{noted_none}
use Rattle.process_ends.proofs.board.Board.new.Goals as goal

pub returns-clause-noted : goal.returns-clause-noted
returns-clause-noted c = noted_none _ _ _ _ _ (cc)
