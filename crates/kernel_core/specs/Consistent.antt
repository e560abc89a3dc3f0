-- What is true of the parts of every kernel.
use Rattle.std.specs.Prelude.{◌≡◌, ℕ, ◌<◌, List, length, map}
use Rattle.end_table.specs.Table.{TableView, entries}
use Rattle.kernel_named.specs.Named.{TableNamesBelow}
use Rattle.kernel_sound.specs.Sound.{IsSound}
use Rattle.kernel_process.specs.declared.process.ControlBlock.{ControlBlock}
use Rattle.kernel_process.specs.Active.{Tells, started_ends}
use Rattle.kernel_process.specs.Parts.{process_state}
use Rattle.kernel_core.specs.declared.state.State.{State}

-- what a kernel with this table and these processes keeps
pub record AreConsistent (t : TableView) (xs : List ControlBlock) (made : ℕ) : Type 0 where
  pub sound : IsSound t.kernel made (length xs) (entries t)
  pub active : Tells (entries t) xs

-- and one of so many kernels, which names no other
pub record AreConsistentOf (kernels : ℕ) (t : TableView) (xs : List ControlBlock) (made : ℕ) : Type 0 where
  pub consistent : AreConsistent t xs made
  pub number : t.kernel < kernels
  pub names : TableNamesBelow kernels (entries t)

abbrev pub IsConsistentOf : ℕ → State → Type 0
IsConsistentOf kernels s = AreConsistentOf kernels s.table s.processes s.made

abbrev pub IsConsistent : State → Type 0
IsConsistent s = AreConsistent s.table s.processes s.made

-- what each event keeps of the parts of a kernel
pub record Keeps (old new : State) : Type 0 where
  pub consistent : IsConsistent new
  pub kernel : new.table.kernel ≡ old.table.kernel
  pub length : length new.processes ≡ length old.processes

-- room was reserved, and nothing else changed that counts
pub record OnlyReserves (old new : State) : Type 0 where
  pub entries : entries new.table ≡ entries old.table
  pub kernel : new.table.kernel ≡ old.table.kernel
  pub made : new.made ≡ old.made
  pub states : map process_state new.processes ≡ map process_state old.processes
  pub active : map started_ends new.processes ≡ map started_ends old.processes
  pub length : length new.processes ≡ length old.processes
