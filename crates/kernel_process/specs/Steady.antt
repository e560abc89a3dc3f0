-- What the end of an event leaves as it is, of the table and of the processes.
use Rattle.std.specs.Prelude.{◌≡◌, ℕ, ◌+◌, List, map, length}
use Rattle.charlotte_calls.specs.declared.names.EndId.{EndId}
use Rattle.charlotte_calls.specs.declared.names.Pid.{Pid}
use Rattle.end_table.specs.Owned.{owned}
use Rattle.end_table.specs.Table.{TableView, entries}
use Rattle.kernel_step.specs.Calls.{is_active}
use Rattle.kernel_process.specs.Closing.{HaveSpare}
use Rattle.kernel_sound.specs.Sound.{IsSound}
use Rattle.kernel_process.specs.declared.process.ControlBlock.{ControlBlock}

-- the table stays sound, nobody's activities change, and the kernel's number stays
pub record StaysCalm (old new : TableView) : Type 0 where
  pub sound : (made n : ℕ) → IsSound old.kernel made n (entries old) → IsSound new.kernel made n (entries new)
  pub calm : (p : Pid) (e : EndId) → is_active (owned p (entries new e)) ≡ is_active (owned p (entries old e))
  pub kernel : new.kernel ≡ old.kernel

-- the processes keep the ends on which an activity is started, and the reports of each take at most n of its room
pub record TakesAtMost (n : ℕ) (old new : List ControlBlock) : Type 0 where
  pub active : map (λ x. x.active) new ≡ map (λ x. x.active) old
  pub length : length new ≡ length old
  pub spare : (k : ℕ) → HaveSpare (k + n) old → HaveSpare k new
