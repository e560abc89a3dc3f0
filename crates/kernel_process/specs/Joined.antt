-- Reports that joined the lists of their processes.
use Rattle.std.specs.Prelude.{◌≡◌, List, length}
use Rattle.charlotte_calls.specs.declared.calls.Report.{Report}
use Rattle.charlotte_calls.specs.declared.names.Pid.{Pid}
use Rattle.charlotte_packets.specs.declared.work.Effect.{Effect}
use Rattle.end_table.specs.Table.{TableView, entries}
use Rattle.kernel_step.specs.Kernel.{Kernel, join_reports}
use Rattle.kernel_process.specs.Parts.{ended, with_parts, GainsAtMost}
use Rattle.kernel_process.specs.Steady.{StaysCalm, TakesAtMost}
use Rattle.kernel_process.specs.declared.process.ControlBlock.{ControlBlock}

-- these reports joined, in order: the event has come to that, each took the room of one report, of one answered process and of one step at
-- most, and the stamp stays
pub record HaveJoined (rs : List (Pid × Report)) (before after : TableView) (xs ys : List ControlBlock) (old new : Effect) : Type 0 where
  pub part : (s : Kernel) → ended (with_parts (entries after) ys s) new ≡ join_reports rs (ended (with_parts (entries before) xs s) old)
  pub calm : StaysCalm before after
  pub kept : TakesAtMost (length rs) xs ys
  pub places : GainsAtMost (length rs) (length rs) old new
  pub stamp : new.stamp ≡ old.stamp
