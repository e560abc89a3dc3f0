use Rattle.std.proofs.Common.{sym, ◌∙◌}
use Rattle.process_ends.proofs.Noting.{first_noted, none_noted}
use Rattle.process_ends.proofs.board.Board.due.Goals as goal

pub returns-then-is_due-clause-first : goal.returns-then-is_due-clause-first
returns-then-is_due-clause-first c =
    first_noted _ _ _ _ _ _ _ c.loop-number.invariant.noted c.in-Some.ensures.below c.due_at-due.ensures (sym c.is_due.ensures ∙ c.if-is_due.true)

pub returns-clause-first : goal.returns-clause-first
returns-clause-first c = none_noted _ _ _ _ _ c.loop-number.invariant.noted c.in_default.ensures.none
