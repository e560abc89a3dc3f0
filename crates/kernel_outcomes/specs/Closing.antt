-- What an event gives once it closes. Its reports and answers are all for one process: rs its reports, given its answers, at most one.
use Rattle.std.specs.Prelude.{◌≡◌, ℕ, true, nat_eq, if◌then◌else◌, List, [], ◌∷◌, ◌++◌, map, Option, None, Some}
use Rattle.charlotte_calls.specs.Names.{opposite}
use Rattle.charlotte_calls.specs.declared.calls.Answer.{Answer}
use Rattle.charlotte_calls.specs.declared.calls.Answer.TheVariants as answer
use Rattle.charlotte_calls.specs.declared.calls.Call.{Call}
use Rattle.charlotte_calls.specs.declared.calls.Call.TheVariants as call
use Rattle.charlotte_calls.specs.declared.calls.Report.{Report}
use Rattle.charlotte_calls.specs.declared.calls.ServiceStep.{ServiceStep}
use Rattle.charlotte_calls.specs.declared.calls.ServiceStep.TheVariants as step
use Rattle.charlotte_calls.specs.declared.names.EndId.{EndId}
use Rattle.charlotte_calls.specs.declared.names.Pid.{Pid}
use Rattle.charlotte_calls.specs.declared.names.Way.TheVariants as way
use Rattle.charlotte_packets.specs.declared.picture.Picture.{Picture}
use Rattle.end_table.specs.Owned.{owned}
use Rattle.end_table.specs.Place.{end_eq}
use Rattle.end_table.specs.declared.entry.Entry.{Entry}
use Rattle.end_table.specs.declared.entry.HereView.{HereView}
use Rattle.end_table.specs.declared.entry.Inward.{Inward}
use Rattle.end_table.specs.declared.entry.Inward.TheVariants as inward
use Rattle.kernel_sound.specs.Acts.{made_after}
use Rattle.kernel_step.specs.Calls.{made_end}
use Rattle.kernel_step.specs.Kernel.{Kernel, Outcome, Process, is_waiting, next_stamp, reported_entry}
use Rattle.kernel_step.specs.Progress.{Progress}
use Rattle.kernel_step.specs.declared.phase.Phase.{Phase}
use Rattle.kernel_step.specs.declared.phase.Phase.TheVariants.{Running, Waiting, Cancelling, Exited}
use Rattle.kernel_effects.specs.Calls.{act_effect}
use Rattle.kernel_effects.specs.Effect.{Effect, stamped}

-- at most one
abbrev pub AtMostOne : List Answer → Type 0
AtMostOne [] = Unit {0}
AtMostOne (a ∷ []) = Unit {0}
AtMostOne (a ∷ b ∷ more) = ⊥

-- the report that answers a Wait: the first, where the process waits
abbrev pub told : Phase → List Answer → List Report → List Report
told phase [] [] = []
told phase [] (r ∷ rs) = if is_waiting phase then r ∷ [] else []
told phase (a ∷ given) rs = []

-- the first of these reports is the oldest of its process where that waits: none stands before
abbrev pub AreOldest : Process → List Report → Type 0
AreOldest x [] = Unit {0}
AreOldest x (r ∷ rs) = is_waiting x.phase ≡ true → x.reports ≡ []

-- its end's way is idle once it is told
abbrev pub told_entry : List Report → EndId → Entry → Entry
told_entry [] q y = y
told_entry (r ∷ rs) q y = if end_eq r.on q then reported_entry r.way y else y

-- the process afterwards: an answer lets it run, the first report answers a Wait, and the others join its list
abbrev pub process_after : Process → List Answer → List Report → Process
process_after x [] [] = x
process_after x [] (r ∷ rs) =
    if is_waiting x.phase
    then record { phase = Running; reports = rs; answer = Some (answer.Reported r) }
    else record x { reports = x.reports ++ r ∷ rs }
process_after x (a ∷ given) rs = record { phase = Running; reports = x.reports ++ rs; answer = Some a }

-- what an event gave, by the state of each process, the entry of each
-- end, its stamp and what stands in each list; all else of kernel s stays
pub record Gives (s : Kernel) (p : Pid) (x : Process) (entry : EndId → Entry) (now : ℕ) (sent : List (ℕ × Picture)) (who : List Pid)
    (meant : List ServiceStep) (o : Outcome) : Type 0 where
  pub process : (q : ℕ) → o.kernel.process q ≡ (if nat_eq p.0 q then x else s.process q)
  pub table : (q : EndId) → o.kernel.table q ≡ entry q
  pub packets : o.packets ≡ sent
  pub answered : o.answered ≡ who
  pub steps : o.steps ≡ meant
  pub stamp : o.kernel.stamp ≡ now
  pub number : o.kernel.number ≡ s.number
  pub kernels : o.kernel.kernels ≡ s.kernels
  pub version : o.kernel.version ≡ s.version
  pub made : o.kernel.made ≡ s.made

-- what an event of kernel s gives that came so far, where process p alone has reports and answers
abbrev pub Closes : Kernel → Progress → Pid → List Answer → List Report → Outcome → Type 0
Closes s d p given rs o =
    let x = s.process p.0 in
    let now = told x.phase given rs in
    Gives s p (process_after x given rs) (λ q. told_entry now q (d.table q)) d.stamp d.packets (map (λ _. p) given ++ map (λ _. p) now)
    (d.steps ++ map (step.Report p) now) o

-- what an event of kernel s gives that began with this stamp and has this effect
abbrev pub EffectGives : Kernel → Pid → ℕ → Effect → List Answer → List Report → Outcome → Type 0
EffectGives s p stamp f given rs o =
    let x = s.process p.0 in
    let now = told x.phase given rs in
    Gives s p (process_after x given rs) (λ q. told_entry now q (f.entry q (s.table q))) stamp (map (stamped stamp) f.packets)
    (map (λ _. p) given ++ map (λ _. p) now) (f.steps ++ map (step.Report p) now) o

-- ---- calls

-- a process that an answer lets run
abbrev pub ran : Process → Answer → Process
ran x a = record x { phase = Running; answer = Some a }

-- a process after its Wait, by the reports that stood
abbrev pub waited : Process → List Report → Process
waited x [] = record x { phase = Waiting }
waited x (r ∷ rs) = record { phase = Running; reports = rs; answer = Some (answer.Reported r) }

-- the oldest report, if one stood
abbrev pub oldest : List Report → List Report
oldest [] = []
oldest (r ∷ rs) = r ∷ []

-- a process after a Cancel of a receive
abbrev pub cancelling : Process → HereView → Inward → Process
cancelling x v inward.Idle = x
cancelling x v (inward.Posted w) = record x { phase = Cancelling v.value.end }
cancelling x v (inward.Withdrawing w) = x
cancelling x v inward.Unreported = x

abbrev pub cancelling_on : Process → Option HereView → Process
cancelling_on x None = x
cancelling_on x (Some v) = cancelling x v v.inward

-- the caller after a call of it that was not refused; t is what its kernel k keeps of each end, which has made so many links
abbrev pub called : ℕ → ℕ → (EndId → Entry) → Pid → Call → Process → Process
called k made t p call.Make x = ran x (answer.Made (made_end k made) (opposite (made_end k made)))
called k made t p (call.Cancel on way.Inward) x = cancelling_on x (owned p (t on))
called k made t p call.Wait x = waited x x.reports
called k made t p call.Exit x = record { phase = Exited; reports = []; answer = Some answer.Ok }
called k made t p c x = ran x answer.Ok

-- the report that a Wait is answered with
abbrev pub call_told : Call → List Report → List Report
call_told call.Wait rs = oldest rs
call_told c rs = []

-- whether the call is answered at once
abbrev pub call_answered : Pid → Call → List Report → List Pid
call_answered p (call.Cancel on way.Inward) rs = []
call_answered p call.Wait rs = map (λ _. p) (oldest rs)
call_answered p c rs = p ∷ []

-- what a call of process p at kernel s gives that is not refused; mine are the ends that p owns, in order
abbrev pub CallGives : Kernel → Pid → List EndId → Call → Outcome → Type 0
CallGives s p mine c o =
    let x = s.process p.0 in
    let f = act_effect p s.number s.made mine s.table c in
    let now = call_told c x.reports in
    let stamp = next_stamp s.stamp in
    Gives (record s { made = made_after c s.made }) p (called s.number s.made s.table p c x) (λ q. told_entry now q (f.entry q (s.table q)))
    stamp (map (stamped stamp) f.packets) (call_answered p c x.reports) (f.steps ++ map (step.Report p) now) o
