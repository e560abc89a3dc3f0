use Rattle.process_ends.proofs.Noting.{noted_gone, noted_so}
use Rattle.process_ends.proofs.board.Board.take.Goals as goal

pub returns-clause-noted : goal.returns-clause-noted
returns-clause-noted c = noted_so _ _ _ _ _ _ (noted_gone _ _ _ _ _ _ _ _ c.requires (λ m apart is. is)) c.exchange.ensures.left
