-- A process between two of its steps: what it keeps, and how far its last call has come.
use Rattle.std.specs.Prelude.{◌≡◌, ℕ, if◌then◌else◌, Option, Some, None, ⊤}
use Rattle.charlotte_calls.specs.EndEq.{end_eq}
use Rattle.charlotte_calls.specs.declared.calls.Answer.{Answer}
use Rattle.charlotte_calls.specs.declared.calls.Call.{Call}
use Rattle.charlotte_calls.specs.declared.calls.Call.TheVariants as call
use Rattle.charlotte_calls.specs.declared.names.EndId.{EndId}
use Rattle.charlotte_calls.specs.declared.names.Way.TheVariants as way
use Rattle.charlotte_calls.specs.declared.program.Next.{Next}
use Rattle.charlotte_calls.specs.declared.program.Next.TheVariants as next
use Rattle.service_step.specs.declared.state.Phase.{Phase}
use Rattle.service_step.specs.declared.state.Phase.TheVariants as phase
use Rattle.entry_steps.specs.Told.{Answered, Heard, NoCall, Pending}
use Rattle.request_runs.specs.States.{State}
use Rattle.request_runs.specs.Asking.{IsCallOf}
use Rattle.request_runs.specs.AtEnd.{Seen, known_ledger, seen}
use Rattle.request_runs.specs.Ledgers.{Ledger, brought, ledger}
use Rattle.request_runs.specs.Telling.{Turn}
use Rattle.request_runs.specs.States as process
use Rattle.request_runs.specs.Acting.{Acting}

pub data Status : Type 0 where
  -- it is at its start, or paused
  Runs : Status
  -- it asks this call, which the service has not yet
  Asks : Call → Status
  -- the service has the call, and no answer was told
  Pends : Call → Status
  -- this answer was told, and its process makes the next step with it
  Told : Call → Answer → Status
  -- it ended
  Over : Status

pub record Owner : Type 0 where
  pub state : State
  pub status : Status

-- by what it did last, and what the entries tell of it
abbrev pub status_of : Option Next → Heard → Status
status_of None h = Runs
status_of (Some next.Pause) h = Runs
status_of (Some next.Ended) h = Over
status_of (Some (next.Ask c)) (Answered d a) = Told d a
status_of (Some (next.Ask c)) (Pending d) = Pends d
status_of (Some (next.Ask c)) NoCall = Asks c

abbrev pub owner_of : Acting → Owner
owner_of x = record { state = x.replayed.state; status = status_of x.replayed.last x.replayed.heard }

-- ---- how far its call has come

-- the answer with which it makes its next step
abbrev pub given_of : Status → Option Answer
given_of (Told c a) = Some a
given_of status = None

-- the phase in which the service has it
abbrev pub phase_of : Status → Phase
phase_of (Pends call.Wait) = phase.Waiting
phase_of (Pends (call.Cancel on way.Inward)) = phase.Cancelling on
phase_of (Told call.Exit a) = phase.Ended
phase_of Over = phase.Ended
phase_of status = phase.Running

-- what it keeps fits its call
abbrev pub IsAskedFor : State → Status → Type 0
IsAskedFor s Runs = s.asked ≡ process.Nothing
IsAskedFor s (Asks c) = IsCallOf s c
IsAskedFor s (Pends c) = IsCallOf s c
IsAskedFor s (Told c a) = IsCallOf s c
IsAskedFor s Over = ⊤

-- ---- its ends

-- the end that it asks to destroy is no more in its places
abbrev pub destroying : EndId → Status → ℕ
destroying x (Asks (call.Destroy y)) = if end_eq y x then 1 else 0
destroying x status = 0

abbrev pub turn_of : Owner → Turn
turn_of o = record { asked = o.state.asked; given = given_of o.status }

-- the ends that its answer brings are in its hand
abbrev pub ledger_of : Owner → Ledger
ledger_of o = ledger o.state (brought (given_of o.status))

-- what it has of an end. A Send that was answered counts already
abbrev pub seen_of : Owner → EndId → Seen
seen_of o x = seen x (known_ledger (turn_of o) (ledger_of o))
