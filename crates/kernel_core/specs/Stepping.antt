-- What an event of a call makes of the parts of a kernel.
use Rattle.std.specs.Prelude.{◌≡◌, ℕ, List, Option}
use Rattle.charlotte_calls.specs.declared.calls.Call.{Call}
use Rattle.charlotte_calls.specs.declared.calls.Call.TheVariants as call
use Rattle.charlotte_calls.specs.declared.calls.Cause.{Cause}
use Rattle.charlotte_calls.specs.declared.names.EndId.{EndId}
use Rattle.charlotte_calls.specs.declared.names.Pid.{Pid}
use Rattle.charlotte_packets.specs.declared.work.Effect.{Effect}
use Rattle.charlotte_packets.specs.declared.work.Work.{Work}
use Rattle.end_table.specs.Table.{TableView, entries}
use Rattle.kernel_process.specs.Parts.{with_parts, ended}
use Rattle.kernel_process.specs.declared.process.ControlBlock.{ControlBlock}
use Rattle.kernel_core.specs.declared.state.State.{State}
use Rattle.kernel_step.specs.Calls.{IsCallWith, refusal}
use Rattle.kernel_step.specs.Kernel.{Kernel, begins, call_step, has_report, next_stamp, process_of}
use Rattle.kernel_step.specs.Progress.{progress}

-- a state of a kernel that has these parts
pub record HasParts (t : TableView) (xs : List ControlBlock) (made : ℕ) (s : Kernel) : Type 0 where
  pub parts : with_parts (entries t) xs s ≡ s
  pub number : s.number ≡ t.kernel
  pub links : s.made ≡ made

-- the event that leaves these parts is the step of a call of p, which owns these ends
abbrev pub IsStepOf : TableView → List ControlBlock → ℕ → ℕ → TableView → List ControlBlock → ℕ → Effect → Pid → List EndId → Call → Type 0
IsStepOf t xs made stamp u ys made_now effect p mine c =
    (s : Kernel) → HasParts t xs made s → stamp ≡ next_stamp s.stamp
    → ended (with_parts (entries u) ys (record s { made = made_now; stamp = effect.stamp })) effect ≡ call_step s p mine c

-- the event is the step of a call of p
abbrev pub IsCalled : State → ℕ → State → Effect → Pid → Call → Type 0
IsCalled old stamp new effect p c =
    (mine : List EndId) × IsCallWith p (entries old.table) mine c
    × IsStepOf old.table old.processes old.made stamp new.table new.processes new.made effect p mine c

-- a `Work` with which an event of this stamp begins
abbrev pub Begins : TableView → ℕ → Work → Type 0
Begins t stamp work = (s : Kernel) → s.table ≡ entries t → progress (entries t) work ≡ begins s stamp

-- these are the ends of the caller where the call is about them, but for a Wait, which makes no list of them
abbrev pub AreListedFor : Pid → TableView → List EndId → Call → Type 0
AreListedFor p t mine c = (c ≡ call.Wait → ⊥) → IsCallWith p (entries t) mine c

-- the call is refused for this cause, or not at all
abbrev pub IsRefusedFor : TableView → List ControlBlock → ℕ → Pid → Call → Option Cause → Type 0
IsRefusedFor t xs made p c cause =
    (s : Kernel) (mine : List EndId) → HasParts t xs made s → IsCallWith p (entries t) mine c
    → refusal p s.table s.made mine (has_report (process_of p s)) c ≡ cause
