use Rattle.process_ends.proofs.Noting.{noted_grown}
use Rattle.process_ends.proofs.board.Board.mark.Goals as goal

pub returns-clause-noted : goal.returns-clause-noted
returns-clause-noted c = noted_grown _ _ _ _ _ _ _ _ c.requires c.add_if-3.ensures.grows c.add_if.ensures.grows c.add_if-2.ensures.grows

pub returns-in_err-add_if-clause-noted : goal.returns-in_err-add_if-clause-noted
returns-in_err-add_if-clause-noted c = noted_grown _ _ _ _ _ _ _ _ c.requires (λ m is. is) c.add_if.ensures.grows (λ m is. is)

pub returns-in_err-add_if-2-clause-noted : goal.returns-in_err-add_if-2-clause-noted
returns-in_err-add_if-2-clause-noted c = noted_grown _ _ _ _ _ _ _ _ c.requires (λ m is. is) c.add_if.ensures.grows c.add_if-2.ensures.grows
