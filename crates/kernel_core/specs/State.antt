-- What contracts see of a kernel, as the kernel state of the definitions.
use Rattle.std.specs.Prelude.{ℕ, List, [], ◌∷◌, Bool, true, false}
use Rattle.charlotte_calls.specs.declared.names.Pid.{Pid}
use Rattle.end_table.specs.Table.{TableView, entries}
use Rattle.kernel_step.specs.Kernel.{Kernel, Process, without_answer}
use Rattle.kernel_step.specs.declared.phase.Phase.{Phase}
use Rattle.kernel_step.specs.declared.phase.Phase.TheVariants.{Running, Waiting, Cancelling, Exited}
unfoldable pub use Rattle.kernel_process.specs.Parts.{ended}
use Rattle.kernel_process.specs.Parts.{process_at}

-- what contracts see of a kernel; the number of the kernel is that of its table
pub record KernelView : Type 0 where
  pub kernels : ℕ
  pub version : ℕ
  pub table : TableView
  -- its processes, by number
  pub processes : List Process
  pub made : ℕ
  pub stamp : ℕ

-- the kernel state of the definitions
unfoldable pub state_of : KernelView → Kernel
state_of v =
    record {
      number = v.table.kernel;
      kernels = v.kernels;
      version = v.version;
      table = entries v.table;
      process = process_at v.processes;
      made = v.made;
      stamp = v.stamp;
    }

-- a process is in a Wait or Cancel whose answer does not stand
abbrev pub is_pending : Phase → Bool
is_pending Running = false
is_pending Waiting = true
is_pending (Cancelling on) = true
is_pending Exited = false

-- the standing answer of a process is taken away where an event gave none
abbrev pub unanswered : Pid → List Pid → Kernel → Kernel
unanswered p [] s = without_answer p s
unanswered p (q ∷ qs) s = s
