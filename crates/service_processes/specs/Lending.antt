-- A process that is lent to be changed.
use Rattle.std.specs.Prelude.{ℕ, List, slice_set}
use Rattle.std.specs.Borrow.{Lends, MutBor, Fml}
use Rattle.service_processes.specs.declared.processes.ControlBlock.{ControlBlock}
use Rattle.service_processes.specs.contracts.processes.ControlBlock.{the_row as block_row}
use Rattle.service_processes.specs.contracts.processes.Processes.{the_row}

-- the processes end with the last value behind r at this number
abbrev pub LendsBlock : MutBor (List ControlBlock) → ℕ → MutBor ControlBlock → Fml
LendsBlock s number r = Lends the_row block_row s r (slice_set s.now number)
