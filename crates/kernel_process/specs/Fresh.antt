-- A process that has made no call.
use Rattle.std.specs.Prelude.{◌≡◌, []}
use Rattle.kernel_process.specs.Parts.{process_state, no_process}
use Rattle.kernel_process.specs.declared.process.ControlBlock.{ControlBlock}

pub record IsFresh (x : ControlBlock) : Type 0 where
  pub process : process_state x ≡ no_process
  pub active : x.active.keys ≡ []
