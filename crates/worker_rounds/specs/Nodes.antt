-- Nodes of programs that make moves, without a watch.
use Rattle.std.specs.Prelude.{ℕ, List}
use Rattle.kernel_turns.specs.Nodes.{Meaning}
use Rattle.kernel_turns.specs.declared.node.Node.{Node}
use Rattle.kernel_turns.specs.declared.watch.NoWatch.{NoWatch}
use Rattle.kernel_worker.specs.Ends.{AreSomeNodes}
use Rattle.worker_rounds.specs.Cycles.{Cycled, cycled_step, last_of}

-- what such a program means
abbrev pub cycled : Meaning Cycled Cycled
cycled = record { step = cycled_step; state = λ a. a; last = λ a. last_of a.last; version = λ _. 1 }

-- they are the nodes of some setting, of none of which memory was wanting
abbrev pub AreRunnable : List (Node Cycled NoWatch) → Type 0
AreRunnable ns = AreSomeNodes cycled (λ _ _. Unit {0}) ns
