use Rattle.process_ends.proofs.Noting.{calm_already, forbids_some}
use Rattle.process_ends.proofs.board.Board.settle_at.Goals as goal

pub settle_kept-requires-clause-held : goal.settle_kept-requires-clause-held
settle_kept-requires-clause-held c = forbids_some _ (cc)

pub returns-then-not-forbids-clause-calm : goal.returns-then-not-forbids-clause-calm
returns-then-not-forbids-clause-calm c = calm_already _ _ _ (cc)
