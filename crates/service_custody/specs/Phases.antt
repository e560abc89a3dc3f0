-- In which phase a step of the service leaves a process.
use Rattle.std.specs.Prelude.{◌≡◌, nat_eq, if◌then◌else◌, Option, Some, None}
use Rattle.charlotte_calls.specs.declared.calls.Answer.{Answer}
use Rattle.charlotte_calls.specs.declared.calls.ServiceStep.{ServiceStep}
use Rattle.charlotte_calls.specs.declared.calls.ServiceStep.TheVariants as step
use Rattle.charlotte_calls.specs.declared.names.Pid.{Pid}
use Rattle.charlotte_calls.specs.declared.names.Way.TheVariants as way
use Rattle.service_step.specs.Ends.{is_owned_by}
use Rattle.service_step.specs.State.{State}
use Rattle.service_step.specs.declared.state.Phase.{Phase}
use Rattle.service_step.specs.declared.state.Phase.TheVariants as phase
use Rattle.told_answers.specs.Told.{cancel_in, report_in}

-- an answer lets a process run that waits for it
abbrev pub unless_answered : Option Answer → Phase → Phase
unless_answered None to = to
unless_answered (Some a) to = phase.Running

-- a process that runs waits, is in a Cancel, or ends, by its own call
abbrev pub turned_by : State → Pid → ServiceStep → Phase
turned_by s q (step.Wait p) = if nat_eq p.0 q.0 then phase.Waiting else phase.Running
turned_by s q (step.Exit p) = if nat_eq p.0 q.0 then phase.Ended else phase.Running
turned_by s q (step.Cancel e way.Inward) = if is_owned_by q (s.ends e).place then phase.Cancelling e else phase.Running
turned_by s q _ = phase.Running

abbrev pub next_phase : State → Pid → ServiceStep → Phase → Phase
next_phase s q made phase.Running = turned_by s q made
next_phase s q made phase.Waiting = unless_answered (report_in q made) phase.Waiting
next_phase s q made (phase.Cancelling e) = unless_answered (cancel_in e made) (phase.Cancelling e)
next_phase s q made phase.Ended = phase.Ended

-- each process goes to its next phase
abbrev pub ArePhases : State → ServiceStep → State → Type 0
ArePhases s made t = (q : Pid) → (t.process q.0).phase ≡ next_phase s q made (s.process q.0).phase
