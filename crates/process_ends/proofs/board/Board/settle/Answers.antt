use Rattle.std.proofs.Common.{refl, ◌∙◌}
use Rattle.process_ends.proofs.Noting.{settled_on, settled_all}
use Rattle.process_ends.proofs.Numbering.{numbers_on, numbers_same}
use Rattle.process_ends.proofs.board.Board.settle.Goals as goal

pub loop-number-init : goal.loop-number-init
loop-number-init c = record { noted = c.requires; room = refl; settled = refl; numbers = numbers_same _ _ refl }

pub loop-number-preserved : goal.loop-number-preserved
loop-number-preserved c =
    record {
      noted = c.settle_next.ensures.noted;
      room = c.settle_next.ensures.room ∙ c.loop-number.invariant.room;
      settled = settled_on _ _ _ _ _ c.loop-number.invariant.room c.in_ok-settle_next.ensures.settled c.loop-number.invariant.settled;
      numbers = numbers_on _ _ _ c.loop-number.invariant.numbers c.settle_next.ensures.numbers;
    }

pub returns-clause-settled : goal.returns-clause-settled
returns-clause-settled c =
    settled_all _ _ _ _ _ _ _ c.loop-number.invariant.noted c.in_default.ensures.none c.loop-number.invariant.room c.loop-number.invariant.settled

pub returns-in_err-settle_next-clause-numbers : goal.returns-in_err-settle_next-clause-numbers
returns-in_err-settle_next-clause-numbers c = numbers_on _ _ _ c.loop-number.invariant.numbers c.settle_next.ensures.numbers
