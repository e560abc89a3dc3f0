use Rattle.process_ends.proofs.Noting.{noted_grown, noted_room}
use Rattle.process_ends.proofs.board.Board.see_room.Goals as goal

pub returns-clause-noted : goal.returns-clause-noted
returns-clause-noted c = noted_room _ _ _ _ _ _ _ _ c.requires c.join.ensures.grows c.join-2.ensures.grows c.in_ok-join.ensures.joined c.in_ok-join-2.ensures.joined

pub returns-in_err-join-clause-noted : goal.returns-in_err-join-clause-noted
returns-in_err-join-clause-noted c = noted_grown _ _ _ _ _ _ _ _ c.requires (λ m is. is) c.join.ensures.grows (λ m is. is)

pub returns-in_err-join-2-clause-noted : goal.returns-in_err-join-2-clause-noted
returns-in_err-join-2-clause-noted c = noted_grown _ _ _ _ _ _ _ _ c.requires (λ m is. is) c.join.ensures.grows c.join-2.ensures.grows
