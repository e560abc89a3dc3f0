-- Nodes of tests: of lists of calls, without a watch.
use Rattle.std.specs.Prelude.{List}
use Rattle.program_round.specs.Listed.{Listed, listed_step}
use Rattle.kernel_turns.specs.Nodes.{Meaning}
use Rattle.kernel_turns.specs.declared.node.Node.{Node}
use Rattle.kernel_turns.specs.declared.watch.NoWatch.{NoWatch}
use Rattle.kernel_worker.specs.Ends.{AreSomeNodes}

-- what a list of calls means
abbrev pub listed : Meaning Listed Listed
listed = record { step = listed_step; state = λ a. a; last = λ a. a.last; version = λ a. a.version }

-- they are the nodes of some setting, of none of which memory was wanting
abbrev pub AreRunnable : List (Node Listed NoWatch) → Type 0
AreRunnable ns = AreSomeNodes listed (λ _ _. Unit {0}) ns
