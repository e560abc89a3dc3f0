-- The state of the link service: the links made, the ends and the processes. It knows of no kernel but as the maker of a
-- link and the home of a process.
use Rattle.std.specs.Prelude.{ℕ, ◌+◌, Bool, true, false, nat_eq, ◌++◌, if◌then◌else◌, Option}
use Rattle.std.specs.Prelude.{Some, None, List, [], ◌∷◌, slice_get, slice_index, slice_set}
use Rattle.charlotte_calls.specs.declared.calls.Report.{Report}
use Rattle.charlotte_calls.specs.declared.names.EndId.{EndId}
use Rattle.charlotte_calls.specs.declared.names.LinkId.{LinkId}
use Rattle.charlotte_calls.specs.declared.names.Outcome.{Outcome}
use Rattle.charlotte_calls.specs.declared.names.Outcome.TheVariants as outcome
use Rattle.charlotte_calls.specs.declared.names.Pid.{Pid}
use Rattle.charlotte_calls.specs.declared.names.Way.TheVariants as way
use Rattle.service_step.specs.Ends.{end_eq}
use Rattle.service_step.specs.declared.state.End.{End}
use Rattle.service_step.specs.declared.state.Phase.{Phase}
use Rattle.service_step.specs.declared.state.Phase.TheVariants as phase

-- what a process is doing, and what it is still to be told
pub record Process : Type 0 where
  pub phase : Phase
  -- the reports that it was not given yet, oldest first
  pub reports : List Report

-- the state of the service
pub record State : Type 0 where
  -- 1 or 2; in version 1 a message carries at most one end, in version 2 at most eight
  pub version : ℕ
  -- the kernel of each process, by its number
  pub homes : List ℕ
  -- how many links each kernel has made, by its number
  pub made : List ℕ
  pub ends : EndId → End
  -- the processes, by number
  pub process : ℕ → Process

-- a number that no process has
abbrev pub no_process : Process
no_process = record { phase = phase.Ended; reports = [] }

-- tests of a process

abbrev pub is_running : Phase → Bool
is_running phase.Running = true
is_running phase.Waiting = false
is_running (phase.Cancelling e) = false
is_running phase.Ended = false

abbrev pub is_waiting : Phase → Bool
is_waiting phase.Waiting = true
is_waiting phase.Running = false
is_waiting (phase.Cancelling e) = false
is_waiting phase.Ended = false

abbrev pub is_cancelling : EndId → Phase → Bool
is_cancelling e (phase.Cancelling f) = end_eq e f
is_cancelling e phase.Running = false
is_cancelling e phase.Waiting = false
is_cancelling e phase.Ended = false

-- there is a process, and it is in a Cancel of the receive on this end
abbrev pub owner_cancels : Option Pid → EndId → (ℕ → Process) → Bool
owner_cancels None e process = false
owner_cancels (Some p) e process = is_cancelling e (process p.0).phase

-- the processes with this one so, and every other as it was
abbrev pub put_process : Pid → Process → (ℕ → Process) → (ℕ → Process)
put_process p x process = λ q. if nat_eq p.0 q then x else process q

-- p goes on to this phase
unfoldable pub turns : Pid → Phase → (ℕ → Process) → (ℕ → Process)
turns p to process = put_process p (record (process p.0) { phase = to }) process

-- p gains these reports, behind those that it has
unfoldable pub gains : Pid → List Report → (ℕ → Process) → (ℕ → Process)
gains p rs process = put_process p (record (process p.0) { reports = (process p.0).reports ++ rs }) process

-- the reports without the oldest
abbrev pub later : List Report → List Report
later [] = []
later (r ∷ rs) = rs

-- p is given its oldest report and runs
unfoldable pub given : Pid → (ℕ → Process) → (ℕ → Process)
given p process = put_process p (record { phase = phase.Running; reports = later (process p.0).reports }) process

-- p ends
unfoldable pub ends_process : Pid → (ℕ → Process) → (ℕ → Process)
ends_process p process = put_process p no_process process

-- p runs again where it is in a Cancel of the receive on this end
unfoldable pub wakes : Pid → EndId → (ℕ → Process) → (ℕ → Process)
wakes p e process = if is_cancelling e (process p.0).phase then turns p phase.Running process else process

-- the owner, where there is one, gains these reports, and runs again where it is in a Cancel of the receive on this end
abbrev pub tells : Option Pid → EndId → List Report → (ℕ → Process) → (ℕ → Process)
tells None e rs process = process
tells (Some p) e rs process = wakes p e (gains p rs process)

-- the report of a send that is over
abbrev pub send_report : EndId → Outcome → List EndId → Report
send_report e over xs = record { on = e; way = way.Outward; outcome = over; bytes = []; enclosed = xs }

-- the report of a receive whose message was taken
abbrev pub receive_report : EndId → List ℕ → List EndId → Report
receive_report e bytes xs = record { on = e; way = way.Inward; outcome = outcome.Done; bytes = bytes; enclosed = xs }

-- the report of a receive whose link died
abbrev pub dead_receive_report : EndId → Report
dead_receive_report e = record { on = e; way = way.Inward; outcome = outcome.Destroyed; bytes = []; enclosed = [] }

-- the name of a link with this maker and count
abbrev pub counted : ℕ → Option ℕ → Option LinkId
counted k None = None
counted k (Some count) = Some (record { maker = k; count = count })

-- the name of the next link that a kernel makes
abbrev pub next_at : Option ℕ → List ℕ → Option LinkId
next_at None made = None
next_at (Some k) made = counted k (slice_get made k)

-- the name of the next link that p's home makes
abbrev pub next_link : State → Pid → Option LinkId
next_link s p = next_at (slice_get s.homes p.0) s.made

-- one link more is made by a kernel
abbrev pub counts : ℕ → List ℕ → List ℕ
counts k made = slice_set made k (slice_index made k + 1)
