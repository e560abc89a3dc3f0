-- The processes of a kernel as the definitions see them, and what an event has come to as it ends.
use Rattle.std.specs.Prelude.{◌≡◌, ℕ, ◌+◌, ◌≤◌, List, [], ◌∷◌, ◌++◌, map, None, slice_index_or, vec_len, vec_capacity}
use Rattle.charlotte_calls.specs.declared.calls.Report.{Report}
use Rattle.charlotte_calls.specs.declared.calls.ServiceStep.TheVariants as step
use Rattle.charlotte_calls.specs.declared.names.EndId.{EndId}
use Rattle.charlotte_calls.specs.declared.names.Pid.{Pid}
use Rattle.charlotte_packets.specs.declared.work.Effect.{Effect}
use Rattle.end_table.specs.Place.{put}
use Rattle.end_table.specs.declared.entry.Entry.{Entry}
use Rattle.kernel_step.specs.Kernel.{Kernel, Outcome, Process, reported_entry}
use Rattle.kernel_step.specs.Progress.{sent_picture}
use Rattle.kernel_step.specs.declared.phase.Phase.TheVariants.{Running}
use Rattle.kernel_process.specs.declared.process.ControlBlock.{ControlBlock}

-- a number that no process has
abbrev pub no_process : Process
no_process = record { phase = Running; reports = []; answer = None }

-- the processes by number
unfoldable pub process_at : List Process → ℕ → Process
process_at xs q = slice_index_or xs q no_process

-- the state of a process
abbrev pub process_state : ControlBlock → Process
process_state x = record { phase = x.phase; reports = x.reports.items; answer = x.answer }

-- a kernel with this table and these processes
unfoldable pub with_parts : (EndId → Entry) → List ControlBlock → Kernel → Kernel
with_parts t xs s = record s { table = t; process = process_at (map process_state xs) }

-- what an event gives, as a kernel and an `Effect` have it
unfoldable pub ended : Kernel → Effect → Outcome
ended s effect =
    record { kernel = s; packets = map sent_picture effect.packets.items; answered = effect.answered.items; steps = effect.steps.items }

-- the first of these reports of a process is told, if there is one, and its activity is idle
abbrev pub tells_first : Pid → List Report → Outcome → Outcome
tells_first p [] o = o
tells_first p (r ∷ rs) o =
    record o {
      kernel = record o.kernel { table = put o.kernel.table r.on (reported_entry r.way (o.kernel.table r.on)) };
      steps = o.steps ++ step.Report p r ∷ [];
    }

-- the effect's lists have room for so many answered processes and steps
pub record HasPlaces (a s : ℕ) (effect : Effect) : Type 0 where
  pub answered : vec_len effect.answered + a ≤ vec_capacity effect.answered
  pub steps : vec_len effect.steps + s ≤ vec_capacity effect.steps

-- no list took memory, and each gained at most so many
pub record GainsAtMost (a s : ℕ) (old new : Effect) : Type 0 where
  pub answered : vec_len new.answered ≤ vec_len old.answered + a
  pub steps : vec_len new.steps ≤ vec_len old.steps + s
  pub answered_in_place : vec_capacity new.answered ≡ vec_capacity old.answered
  pub steps_in_place : vec_capacity new.steps ≡ vec_capacity old.steps
