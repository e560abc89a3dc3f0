use Rattle.std.proofs.Common.{refl}
use Rattle.process_ends.proofs.Noting.{noted_more, noted_so}
use Rattle.process_ends.proofs.board.Board.push.Goals as goal

pub returns-clause-noted : goal.returns-clause-noted
returns-clause-noted c = noted_so _ _ _ _ _ _ (noted_more _ _ _ _ _ _ c.requires.noted refl) c.in_ok-push.ensures.more

pub returns-in_err-push-clause-noted : goal.returns-in_err-push-clause-noted
returns-in_err-push-clause-noted c = noted_so _ _ _ _ _ _ c.requires.noted c.in_err-push.ensures.same
