-- The kernel step: kernel state, and what one event makes of it.
use Rattle.std.specs.Prelude.{ℕ, ◌+◌, ◌-◌, ◌^◌, max, min, Bool, true, false, nat_eq, not}
use Rattle.std.specs.Prelude.{List, [], ◌∷◌, ◌++◌, length, if◌then◌else◌, Option, Some, None}
use Rattle.std.specs.List.{fold}
use Rattle.charlotte_calls.specs.Names.{opposite}
use Rattle.charlotte_packets.specs.Packets.{is_addressed}
use Rattle.charlotte_calls.specs.declared.calls.Answer.{Answer}
use Rattle.charlotte_calls.specs.declared.calls.Answer.TheVariants as answer
use Rattle.charlotte_calls.specs.declared.calls.Call.{Call}
use Rattle.charlotte_calls.specs.declared.calls.Call.TheVariants as call
use Rattle.charlotte_calls.specs.declared.calls.Cause.{Cause}
use Rattle.charlotte_calls.specs.declared.calls.Report.{Report}
use Rattle.charlotte_calls.specs.declared.calls.ServiceStep.{ServiceStep}
use Rattle.charlotte_calls.specs.declared.calls.ServiceStep.TheVariants as step
use Rattle.charlotte_calls.specs.declared.names.EndId.{EndId}
use Rattle.charlotte_calls.specs.declared.names.Pid.{Pid}
use Rattle.charlotte_calls.specs.declared.names.Way.{Way}
use Rattle.charlotte_calls.specs.declared.names.Way.TheVariants as way
use Rattle.charlotte_packets.specs.declared.picture.Picture.{Picture}
use Rattle.end_table.specs.declared.entry.Entry.{Entry}
use Rattle.end_table.specs.declared.entry.Entry.TheVariants as entry
use Rattle.end_table.specs.declared.entry.HereView.{HereView}
use Rattle.end_table.specs.declared.entry.Inward.{Inward}
use Rattle.end_table.specs.declared.entry.Inward.TheVariants as inward
use Rattle.end_table.specs.declared.entry.Outward.{Outward}
use Rattle.end_table.specs.declared.entry.Outward.TheVariants as outward
use Rattle.kernel_step.specs.declared.phase.Phase.{Phase}
use Rattle.kernel_step.specs.declared.phase.Phase.TheVariants.{Running, Waiting, Cancelling, Exited}
use Rattle.end_table.specs.Place.{put}
use Rattle.kernel_step.specs.Progress.{Progress, means}
use Rattle.kernel_step.specs.Actions.{ends}
use Rattle.kernel_step.specs.Rows.{row}
use Rattle.end_table.specs.Owned.{owned}
use Rattle.kernel_step.specs.Calls.{refusal, made_end, makes, starts_send, encloses, posts, withdraws_send, withdraws_receive, ends_each}

pub record Process : Type 0 where
  pub phase : Phase
  -- the reports that it was not given yet, oldest first
  pub reports : List Report
  -- the answer that it was not given yet
  pub answer : Option Answer

pub record Kernel : Type 0 where
  -- its number, how many kernels there are, and the version: they never change
  pub number : ℕ
  pub kernels : ℕ
  pub version : ℕ
  -- what it keeps of each end
  pub table : EndId → Entry
  -- its processes, by number
  pub process : ℕ → Process
  -- how many links it made
  pub made : ℕ
  pub stamp : ℕ

-- what an event gives
pub record Outcome : Type 0 where
  pub kernel : Kernel
  -- the packets sent, each with the kernel that it goes to
  pub packets : List (ℕ × Picture)
  -- the process for which an answer came to stand, if there is one
  pub answered : List Pid
  pub steps : List ServiceStep

-- one more, but for the greatest number of 64 bits, which stays (Lamport, 1978: time goes on with each event)
abbrev pub next_stamp : ℕ → ℕ
next_stamp n = min (n + 1) (2 ^ 64 - 1)

-- the event begins
abbrev pub begins : Kernel → ℕ → Progress
begins s stamp = record { table = s.table; stamp = stamp; packets = []; reports = []; answers = []; steps = [] }

-- the kernel with another state of one process
abbrev pub with_process : Pid → Process → Kernel → Kernel
with_process p x s = record s { process = λ q. if nat_eq p.0 q then x else s.process q }

-- the state of a process
abbrev pub process_of : Pid → Kernel → Process
process_of p s = s.process p.0

-- the standing answer of a process is taken away
abbrev pub without_answer : Pid → Kernel → Kernel
without_answer p s = with_process p (record (process_of p s) { answer = None }) s

-- an outcome, as the last parts of an event fill it: an answer comes to stand, and its process runs again
abbrev pub stands : Pid → Answer → Outcome → Outcome
stands p a o =
    record o {
      kernel = with_process p (record (process_of p o.kernel) { phase = Running; answer = Some a }) o.kernel;
      answered = o.answered ++ p ∷ [];
    }

abbrev pub outward_reported : Outward → Outward
outward_reported outward.Idle = outward.Idle
outward_reported (outward.Waiting n bytes xs) = outward.Waiting n bytes xs
outward_reported (outward.Matched n) = outward.Matched n
outward_reported outward.Unreported = outward.Idle

abbrev pub inward_reported : Inward → Inward
inward_reported inward.Idle = inward.Idle
inward_reported (inward.Posted w) = inward.Posted w
inward_reported (inward.Withdrawing w) = inward.Withdrawing w
inward_reported inward.Unreported = inward.Idle

-- an activity that was over is idle once it is reported
abbrev pub reported_view : Way → HereView → HereView
reported_view way.Outward v = record v { outward = outward_reported v.outward }
reported_view way.Inward v = record v { inward = inward_reported v.inward }

abbrev pub reported_entry : Way → Entry → Entry
reported_entry w entry.Nothing = entry.Nothing
reported_entry w (entry.Here v) = entry.Here (reported_view w v)
reported_entry w (entry.Left to hops) = entry.Left to hops
reported_entry w (entry.Destroyed m) = entry.Destroyed m

-- a report answers the Wait of its process: others are the reports behind it
unfoldable pub answers_wait : Pid → Report → List Report → Outcome → Outcome
answers_wait p r others o =
    let s = o.kernel in
    let told = with_process p (record (process_of p s) { reports = others })
    (record s { table = put s.table r.on (reported_entry r.way (s.table r.on)) }) in
    stands p (answer.Reported r) (record o { kernel = told; steps = o.steps ++ step.Report p r ∷ [] })

abbrev pub is_waiting : Phase → Bool
is_waiting Running = false
is_waiting Waiting = true
is_waiting (Cancelling e) = false
is_waiting Exited = false

-- a process goes on to another phase
abbrev pub turns : Pid → Phase → Kernel → Kernel
turns p phase s = with_process p (record (process_of p s) { phase = phase }) s

-- a Wait, with these reports: the oldest answers it, and the others stay
abbrev pub waits : Pid → List Report → Outcome → Outcome
waits p [] o = record o { kernel = turns p Waiting o.kernel }
waits p (r ∷ rs) o = answers_wait p r rs o

-- a report joins its process's list; where the process is in a Wait, the oldest of the list answers it
abbrev pub joins : Pid → Report → Phase → Outcome → Outcome
joins p r phase o =
    let x = process_of p o.kernel in
    let reports = x.reports ++ r ∷ [] in
    if is_waiting phase then waits p reports o
    else record o { kernel = with_process p (record x { reports = reports }) o.kernel }

unfoldable pub join_reports : List (Pid × Report) → Outcome → Outcome
join_reports rs o = fold (λ so_far r. joins r.0 r.1 (process_of r.0 so_far.kernel).phase so_far) o rs

unfoldable pub join_answers : List (Pid × Answer) → Outcome → Outcome
join_answers as_given o = fold (λ so_far a. stands a.0 a.1 so_far) o as_given

-- the event is over: the kernel has its table and stamp, and answers and reports reach their processes
unfoldable pub closes : Kernel → Progress → Outcome
closes s d =
    join_reports d.reports
    (join_answers d.answers
    (record { kernel = record s { table = d.table; stamp = d.stamp }; packets = d.packets; answered = []; steps = d.steps }))

-- taking a packet: one that names a kernel that is not there is dropped
unfoldable pub take_step : Kernel → ℕ → Picture → Outcome
take_step s from p =
    let d = begins s (next_stamp (max s.stamp p.stamp)) in
    closes s (if is_addressed p.what s.kernels then row s.number s.made from p.what d else d)

-- a call that is answered with Ok at once
abbrev pub granted : Pid → Kernel → Progress → Outcome
granted p s d = stands p answer.Ok (closes s d)

-- a call on an end that the caller owns
abbrev pub granted_on : Pid → Kernel → Option HereView → (HereView → Progress → Progress) → Progress → Outcome
granted_on p s None part d = closes s d
granted_on p s (Some v) part d = granted p s (part v d)

-- Cancel, by what is started
abbrev pub cancels_receive : Pid → Kernel → HereView → Inward → Progress → Outcome
cancels_receive p s v inward.Idle d = closes s d
cancels_receive p s v (inward.Posted w) d = closes (turns p (Cancelling v.value.end) s) (withdraws_receive s.number w v d)
cancels_receive p s v (inward.Withdrawing w) d = closes s d
cancels_receive p s v inward.Unreported d = closes s d

abbrev pub cancels : Pid → Kernel → Way → Option HereView → Progress → Outcome
cancels p s w None d = closes s d
cancels p s way.Outward (Some v) d = granted p s (withdraws_send v d)
cancels p s way.Inward (Some v) d = cancels_receive p s v v.inward d

-- a process that exits leaves no reports
abbrev pub exits : Pid → Outcome → Outcome
exits p o =
    record o {
      kernel = with_process p (record { phase = Exited; reports = []; answer = Some answer.Ok }) o.kernel;
      answered = o.answered ++ p ∷ [];
    }

-- a call that is not refused; mine are the ends that p owns, in order
unfoldable pub performs : Pid → Kernel → List EndId → Call → Progress → Outcome
performs p s mine call.Make d =
    let a = made_end s.number s.made in
    stands p (answer.Made a (opposite a)) (closes (record s { made = s.made + 1 }) (makes s.number s.made p d))
performs p s mine (call.Destroy on) d =
    granted_on p s (owned p (s.table on)) (λ v so_far. ends s.number v (means (step.Destroy on) so_far)) d
performs p s mine (call.Send on bytes xs) d =
    granted_on p s (owned p (s.table on)) (λ v so_far. starts_send s.number bytes xs v (encloses on xs so_far)) d
performs p s mine (call.Receive on) d = granted_on p s (owned p (s.table on)) (posts s.number) d
performs p s mine (call.Cancel on w) d = cancels p s w (owned p (s.table on)) d
performs p s mine call.Wait d = waits p (process_of p s).reports (closes s (means (step.Wait p) d))
performs p s mine (call.Print bytes) d = granted p s d
performs p s mine call.Exit d = exits p (closes s (ends_each s.number mine (means (step.Exit p) d)))

-- a call that is refused changes the stamp and the caller's standing answer alone
abbrev pub refuses : Pid → Kernel → Call → Cause → Progress → Outcome
refuses p s c cause d = stands p (answer.Refused cause) (closes s (means (step.Refuse p c cause) d))

abbrev pub decides : Pid → Kernel → List EndId → Call → Option Cause → Progress → Outcome
decides p s mine c None d = performs p s mine c d
decides p s mine c (Some cause) d = refuses p s c cause d

abbrev pub has_report : Process → Bool
has_report x = not (nat_eq (length x.reports) 0)

-- a call of process p, whose standing answer was taken away; mine are the ends that p owns, in order
unfoldable pub call_step : Kernel → Pid → List EndId → Call → Outcome
call_step s p mine c =
    decides p s mine c (refusal p s.table s.made mine (has_report (process_of p s)) c) (begins s (next_stamp s.stamp))
