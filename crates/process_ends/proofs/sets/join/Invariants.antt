use Rattle.process_ends.specs.Sets.{Grows, Remains}
use Rattle.process_ends.proofs.sets.join.Given as goal

abbrev pub invariant-loop-number : goal.invariant-loop-number
invariant-loop-number l = record { grows : Grows l.initial.set l.set; remains : Remains l.more l.number-iterator l.set }
