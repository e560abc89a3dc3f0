-- What a process is answered, told by the entries of its kernel: by the service steps of its call's own entry, and of later ones.
use Rattle.std.specs.Prelude.{◌≡◌, Bool, nat_eq, ◌&&◌, List, [], ◌∷◌, if◌then◌else◌, Option, Some, None}
use Rattle.charlotte_calls.specs.Names.{opposite}
use Rattle.charlotte_calls.specs.declared.calls.Answer.{Answer}
use Rattle.charlotte_calls.specs.declared.calls.Answer.TheVariants as answer
use Rattle.charlotte_calls.specs.declared.calls.Call.{Call}
use Rattle.charlotte_calls.specs.declared.calls.Call.TheVariants as call
use Rattle.charlotte_calls.specs.declared.calls.Cause.TheVariants.{Dead, Late}
use Rattle.charlotte_calls.specs.declared.calls.ServiceStep.{ServiceStep}
use Rattle.charlotte_calls.specs.declared.calls.ServiceStep.TheVariants as step
use Rattle.charlotte_calls.specs.declared.names.EndId.{EndId}
use Rattle.charlotte_calls.specs.declared.names.Pid.{Pid}
use Rattle.charlotte_calls.specs.declared.names.Way.TheVariants.{Inward}
use Rattle.end_table.specs.Place.{end_eq}
use Rattle.kernel_entries.specs.declared.entry.Entry.{Entry}
use Rattle.kernel_entries.specs.declared.entry.Happened.{Happened}
use Rattle.kernel_entries.specs.declared.entry.Happened.TheVariants.{Asked, Took}

-- ---- what one step tells

-- a refusal: of its cause
abbrev pub refusal_in : ServiceStep → Option Answer
refusal_in (step.Refuse p c cause) = Some (answer.Refused cause)
refusal_in _ = None

-- a Make: of both ends
abbrev pub made_in : ServiceStep → Option Answer
made_in (step.Make p a b) = Some (answer.Made a b)
made_in _ = None

-- a Wait of p: a report of p
abbrev pub report_in : Pid → ServiceStep → Option Answer
report_in p (step.Report q r) = if nat_eq p.0 q.0 then Some (answer.Reported r) else None
report_in p _ = None

-- a Cancel of the receive on e: it was taken back; or a message of the opposite end was taken first, or the death of the link was noticed,
-- and the step says that this answers a Cancel
abbrev pub cancel_in : EndId → ServiceStep → Option Answer
cancel_in e (step.Free on) = if end_eq e on then Some answer.Ok else None
cancel_in e (step.Take on n p late) = if end_eq (opposite e) on && late then Some (answer.Refused Late) else None
cancel_in e (step.Notice on dead) = if end_eq e on && dead then Some (answer.Refused Dead) else None
cancel_in e (step.Back on n dead) = if end_eq e on && dead then Some (answer.Refused Dead) else None
cancel_in e _ = None

-- ---- what an entry tells of a call, by its steps

-- the first answer, if there is one
abbrev pub or_else : Option Answer → Option Answer → Option Answer
or_else None later = later
or_else (Some a) later = Some a

-- what the first of some steps tells that tells one
abbrev pub first_in : (ServiceStep → Option Answer) → List ServiceStep → Option Answer
first_in tells [] = None
first_in tells (x ∷ xs) = or_else (tells x) (first_in tells xs)

-- the call's own entry, where it was not refused
abbrev pub granted_told : Pid → Call → List ServiceStep → Option Answer
granted_told p call.Make steps = first_in made_in steps
granted_told p call.Wait steps = first_in (report_in p) steps
granted_told p (call.Cancel on Inward) steps = None
granted_told p c steps = Some answer.Ok

-- the call's own entry
abbrev pub own_told : Pid → Call → List ServiceStep → Option Answer
own_told p c steps = or_else (first_in refusal_in steps) (granted_told p c steps)

-- a later entry, where none before told an answer
abbrev pub later_told : Pid → Call → List ServiceStep → Option Answer
later_told p call.Wait steps = first_in (report_in p) steps
later_told p (call.Cancel on Inward) steps = first_in (cancel_in on) steps
later_told p c steps = None

-- ---- a process along the entries of its kernel

-- the last call of a process, and what was told of it
pub data Heard : Type 0 where
  -- it made no call yet
  NoCall : Heard
  -- no answer was told yet
  Pending : Call → Heard
  -- this answer was told
  Answered : Call → Answer → Heard

-- a call of which this was told
abbrev pub heard_of : Call → Option Answer → Heard
heard_of c None = Pending c
heard_of c (Some a) = Answered c a

-- the answer that was told of the last call
abbrev pub answer_of : Heard → Option Answer
answer_of NoCall = None
answer_of (Pending c) = None
answer_of (Answered c a) = Some a

-- the call that p makes in an entry
abbrev pub call_of : Pid → Happened → Option Call
call_of p (Asked q c) = if nat_eq p.0 q.0 then Some c else None
call_of p (Took from picture) = None

-- what is told of p by an entry with these steps, in which it makes this call or none, after this was heard of it
abbrev pub tells_by : Pid → Heard → Option Call → List ServiceStep → Option Answer
tells_by p h (Some c) steps = own_told p c steps
tells_by p (Pending c) None steps = later_told p c steps
tells_by p h None steps = None

-- what is heard of p with it
abbrev pub hears_by : Pid → Heard → Option Call → List ServiceStep → Heard
hears_by p h (Some c) steps = heard_of c (own_told p c steps)
hears_by p (Pending c) None steps = heard_of c (later_told p c steps)
hears_by p h None steps = h

-- the answer that an entry tells of p
abbrev pub tells : Pid → Heard → Entry → Option Answer
tells p h e = tells_by p h (call_of p e.what) e.steps

abbrev pub hears : Pid → Heard → Entry → Heard
hears p h e = hears_by p h (call_of p e.what) e.steps

-- what is heard of p in these entries, after this was
abbrev pub hears_all : Pid → Heard → List Entry → Heard
hears_all p h [] = h
hears_all p h (e ∷ es) = hears_all p (hears p h e) es

-- what the entries of its kernel tell of p, from the first on
abbrev pub heard : Pid → List Entry → Heard
heard p es = hears_all p NoCall es
