-- The processes by number, from the list of what is kept of each.
use Rattle.std.specs.Prelude.{ℕ, ◌<◌, List, length, map, slice_index_or}
use Rattle.std.specs.VecDeque.{deque_len, deque_capacity}
use Rattle.charlotte_calls.specs.declared.names.Pid.{Pid}
use Rattle.service_processes.specs.declared.processes.ControlBlock.{ControlBlock}
use Rattle.service_step.specs.State.{Process, no_process}

-- the state of a process
abbrev pub process_state : ControlBlock → Process
process_state x = record { phase = x.phase; reports = x.reports.items }

-- the processes by number; a number that no process has is an ended one
unfoldable pub process_of : List ControlBlock → ℕ → Process
process_of xs q = slice_index_or (map process_state xs) q no_process

-- there is a process with this number
abbrev pub HasProcess : List ControlBlock → Pid → Type 0
HasProcess xs p = p.0 < length xs

-- a report more of a process takes no memory
abbrev pub HasRoom : ControlBlock → Type 0
HasRoom x = deque_len x.reports < deque_capacity x.reports

-- the same of the process with this number, where there is one
abbrev pub HasRoomFor : List ControlBlock → Pid → Type 0
HasRoomFor xs p = (other : ControlBlock) → HasRoom (slice_index_or xs p.0 other)
