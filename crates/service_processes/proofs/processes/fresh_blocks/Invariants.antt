-- so many processes were made, each new
use Rattle.std.proofs.Common.{◌≡◌, length, All}
use Rattle.service_step.specs.Run.{new_process}
use Rattle.service_processes.specs.Processes.{process_state}
use Rattle.service_processes.proofs.processes.fresh_blocks.Given as goal

abbrev pub invariant-loop-number : goal.invariant-loop-number
invariant-loop-number l = record { count : length l.blocks.items ≡ l._number; fresh : All (λ x. process_state x ≡ new_process) l.blocks.items }
