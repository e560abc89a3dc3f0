-- What a process is given, and that what it is told are bytes.
use Rattle.std.proofs.Common.{◌≡◌, Bool, true, false, nat_eq, List, [], ◌∷◌, All, Option, Some, None, if◌then◌else◌, refl, sym, subst}
use Rattle.std.proofs.lemmas.List.Elements.{All-head, All-tail}
use Rattle.charlotte_calls.specs.Ranges.{IsStepInRange}
use Rattle.charlotte_calls.specs.declared.calls.Answer.{Answer}
use Rattle.charlotte_calls.specs.declared.calls.Answer.TheVariants as answer
use Rattle.charlotte_calls.specs.declared.calls.Call.{Call}
use Rattle.charlotte_calls.specs.declared.calls.Call.TheVariants as call
use Rattle.charlotte_calls.specs.declared.calls.ServiceStep.{ServiceStep}
use Rattle.charlotte_calls.specs.declared.calls.ServiceStep.TheVariants as step
use Rattle.charlotte_calls.specs.declared.names.EndId.{EndId}
use Rattle.charlotte_calls.specs.declared.names.Pid.{Pid}
use Rattle.charlotte_calls.specs.declared.names.Way.TheVariants.{Inward, Outward}
use Rattle.charlotte_calls.specs.declared.program.Next.{Next}
use Rattle.charlotte_calls.specs.declared.program.Next.TheVariants as next
use Rattle.run_process_steps.specs.Replay.{IsGiven, IsNoCall}
use Rattle.run_process_steps.specs.Told.{Answered, Heard, NoCall, Pending, cancel_in, first_in, granted_told, heard_of, hears_by, later_told, made_in, or_else, own_told, refusal_in, report_in}
use Rattle.run_process_steps.specs.ProcessSoundTold.{IsTold}
use Rattle.run_process_steps.specs.Owners.{given_of, status_of}
use Rattle.run_process_steps.specs.Steps.{MayStep, after_step}

-- ---- what a step is given

pub given-is : (last : Option Next) (h : Heard) (given : Option Answer) → IsGiven last h given → MayStep (status_of last h) × (given ≡ given_of (status_of last h))
given-is None h given is = (tt, is)
given-is (Some next.Pause) h given is = (tt, is)
given-is (Some (next.Ask c)) h (Some a) is = subst (λ (k : Heard). MayStep (status_of (Some (next.Ask c)) k) × (Some a ≡ given_of (status_of (Some (next.Ask c)) k))) (sym is) (tt, refl)
given-is (Some (next.Ask c)) h None is = absurd is
given-is (Some next.Ended) h (Some a) is = absurd is
given-is (Some next.Ended) h None is = absurd is

pub paused-status : (m : Next) (h : Heard) → IsNoCall m → status_of (Some m) h ≡ after_step m
paused-status (next.Ask c) h without = absurd without
paused-status next.Pause h without = refl
paused-status next.Ended h without = refl

pub paused-given : (m : Next) → IsNoCall m → given_of (after_step m) ≡ None
paused-given (next.Ask c) without = absurd without
paused-given next.Pause without = refl
paused-given next.Ended without = refl

-- ---- bytes

-- the first answer of some steps is one of a step
first-of : (tells : ServiceStep → Option Answer) → ((made : ServiceStep) → IsStepInRange made → IsTold (tells made)) → (steps : List ServiceStep) → All IsStepInRange steps → IsTold (first_in tells steps)
first-of tells each [] all = tt
first-of tells each (made ∷ steps) all = by (tells made) (each made (All-head IsStepInRange made steps all)) (first-of tells each steps (All-tail IsStepInRange made steps all))
  where
    by : (o : Option Answer) → IsTold o → IsTold (first_in tells steps) → IsTold (or_else o (first_in tells steps))
    by None one rest = rest
    by (Some a) one rest = one

told-if : (b : Bool) (a : Answer) → IsTold (Some a) → IsTold (if b then Some a else None)
told-if true a is = is
told-if false a is = tt

refusal-told : (made : ServiceStep) → IsStepInRange made → IsTold (refusal_in made)
refusal-told (step.Refuse p c cause) is = tt
refusal-told (step.Make p a b) is = tt
refusal-told (step.Destroy e) is = tt
refusal-told (step.Send e n bytes xs) is = tt
refusal-told (step.Receive e) is = tt
refusal-told (step.Cancel e w) is = tt
refusal-told (step.Wait p) is = tt
refusal-told (step.Report p r) is = tt
refusal-told (step.Exit p) is = tt
refusal-told (step.Match e n) is = tt
refusal-told (step.Take e n p late) is = tt
refusal-told (step.Complete e n) is = tt
refusal-told (step.Withdraw e) is = tt
refusal-told (step.Free e) is = tt
refusal-told (step.Notice e dead) is = tt
refusal-told (step.Back e n dead) is = tt

made-told : (made : ServiceStep) → IsStepInRange made → IsTold (made_in made)
made-told (step.Make p a b) is = tt
made-told (step.Refuse p c cause) is = tt
made-told (step.Destroy e) is = tt
made-told (step.Send e n bytes xs) is = tt
made-told (step.Receive e) is = tt
made-told (step.Cancel e w) is = tt
made-told (step.Wait p) is = tt
made-told (step.Report p r) is = tt
made-told (step.Exit p) is = tt
made-told (step.Match e n) is = tt
made-told (step.Take e n p late) is = tt
made-told (step.Complete e n) is = tt
made-told (step.Withdraw e) is = tt
made-told (step.Free e) is = tt
made-told (step.Notice e dead) is = tt
made-told (step.Back e n dead) is = tt

report-told : (q : Pid) (made : ServiceStep) → IsStepInRange made → IsTold (report_in q made)
report-told q (step.Report p r) is = told-if (nat_eq q.0 p.0) (answer.Reported r) is.1.bytes.each
report-told q (step.Make p a b) is = tt
report-told q (step.Refuse p c cause) is = tt
report-told q (step.Destroy e) is = tt
report-told q (step.Send e n bytes xs) is = tt
report-told q (step.Receive e) is = tt
report-told q (step.Cancel e w) is = tt
report-told q (step.Wait p) is = tt
report-told q (step.Exit p) is = tt
report-told q (step.Match e n) is = tt
report-told q (step.Take e n p late) is = tt
report-told q (step.Complete e n) is = tt
report-told q (step.Withdraw e) is = tt
report-told q (step.Free e) is = tt
report-told q (step.Notice e dead) is = tt
report-told q (step.Back e n dead) is = tt

cancel-told : (on : EndId) (made : ServiceStep) → IsStepInRange made → IsTold (cancel_in on made)
cancel-told on (step.Free e) is = told-if _ answer.Ok tt
cancel-told on (step.Take e n p late) is = told-if _ _ tt
cancel-told on (step.Notice e dead) is = told-if _ _ tt
cancel-told on (step.Back e n dead) is = told-if _ _ tt
cancel-told on (step.Make p a b) is = tt
cancel-told on (step.Refuse p c cause) is = tt
cancel-told on (step.Destroy e) is = tt
cancel-told on (step.Send e n bytes xs) is = tt
cancel-told on (step.Receive e) is = tt
cancel-told on (step.Cancel e w) is = tt
cancel-told on (step.Wait p) is = tt
cancel-told on (step.Report p r) is = tt
cancel-told on (step.Exit p) is = tt
cancel-told on (step.Match e n) is = tt
cancel-told on (step.Complete e n) is = tt
cancel-told on (step.Withdraw e) is = tt

later-is-told : (q : Pid) (c : Call) (steps : List ServiceStep) → All IsStepInRange steps → IsTold (later_told q c steps)
later-is-told q call.Wait steps all = first-of (report_in q) (report-told q) steps all
later-is-told q (call.Cancel on Inward) steps all = first-of (cancel_in on) (cancel-told on) steps all
later-is-told q (call.Cancel on Outward) steps all = tt
later-is-told q call.Make steps all = tt
later-is-told q (call.Destroy on) steps all = tt
later-is-told q (call.Send on bytes xs) steps all = tt
later-is-told q (call.Receive on) steps all = tt
later-is-told q (call.Print bytes) steps all = tt
later-is-told q call.Exit steps all = tt

granted-is-told : (q : Pid) (c : Call) (steps : List ServiceStep) → All IsStepInRange steps → IsTold (granted_told q c steps)
granted-is-told q call.Make steps all = first-of made_in made-told steps all
granted-is-told q call.Wait steps all = first-of (report_in q) (report-told q) steps all
granted-is-told q (call.Cancel on Inward) steps all = tt
granted-is-told q (call.Cancel on Outward) steps all = tt
granted-is-told q (call.Destroy on) steps all = tt
granted-is-told q (call.Send on bytes xs) steps all = tt
granted-is-told q (call.Receive on) steps all = tt
granted-is-told q (call.Print bytes) steps all = tt
granted-is-told q call.Exit steps all = tt

own-is-told : (q : Pid) (c : Call) (steps : List ServiceStep) → All IsStepInRange steps → IsTold (own_told q c steps)
own-is-told q c steps all = by (first_in refusal_in steps) (first-of refusal_in refusal-told steps all)
  where
    by : (o : Option Answer) → IsTold o → IsTold (or_else o (granted_told q c steps))
    by None is = granted-is-told q c steps all
    by (Some a) is = is

status-is-told : (c : Call) (o : Option Answer) (d : Call) → IsTold o → IsTold (given_of (status_of (Some (next.Ask d)) (heard_of c o)))
status-is-told c None d is = tt
status-is-told c (Some a) d is = is

-- of a call that it makes in the entry
pub called-told : (q : Pid) (c d : Call) (h : Heard) (steps : List ServiceStep) → All IsStepInRange steps → IsTold (given_of (status_of (Some (next.Ask d)) (hears_by q h (Some c) steps)))
called-told q c d h steps all = status-is-told c (own_told q c steps) d (own-is-told q c steps all)

-- what an entry tells are bytes where its steps are
pub hears-told : (q : Pid) (last : Option Next) (h : Heard) (o : Option Call) (steps : List ServiceStep) → All IsStepInRange steps → IsTold (given_of (status_of last h)) → IsTold (given_of (status_of last (hears_by q h o steps)))
hears-told q None h o steps all is = tt
hears-told q (Some next.Pause) h o steps all is = tt
hears-told q (Some next.Ended) h o steps all is = tt
hears-told q (Some (next.Ask d)) h (Some c) steps all is = status-is-told c (own_told q c steps) d (own-is-told q c steps all)
hears-told q (Some (next.Ask d)) (Pending c) None steps all is = status-is-told c (later_told q c steps) d (later-is-told q c steps all)
hears-told q (Some (next.Ask d)) NoCall None steps all is = is
hears-told q (Some (next.Ask d)) (Answered c a) None steps all is = is
