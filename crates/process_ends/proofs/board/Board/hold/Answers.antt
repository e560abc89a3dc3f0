use Rattle.std.proofs.Common.{ap, ◌∙◌}
use Rattle.end_protocol.specs.declared.kept.Kept.{Kept}
use Rattle.process_run.specs.States.{Keeps}
use Rattle.process_run.specs.Ends.{with_holding}
use Rattle.process_ends.proofs.Noting.{noted_held, noted_so}
use Rattle.process_ends.proofs.board.Board.hold.Goals as goal

pub returns-clause-noted : goal.returns-clause-noted
returns-clause-noted c = noted_so _ _ _ _ _ _ (noted_held _ _ _ _ _ _ _ c.requires.noted c.requires.fresh) c.exchange.ensures.left

pub returns-clause-held : goal.returns-clause-held
returns-clause-held c = c.exchange.ensures.left ∙ ap (λ (k : Kept). with_holding c.args.number (Keeps k) c.args.self.now.roster) c.requires.fresh
