-- The service steps of each entry of a run: those of its call, and those that come of it.
use Rattle.std.specs.Prelude.{◌≡◌, ◌≢◌, ◌⊎◌, ℕ, ◌<◌, List, [], ◌∷◌, ◌++◌, length, ⊤}
use Rattle.std.specs.List.{AllByRecursion}
use Rattle.charlotte_calls.specs.declared.calls.Call.{Call}
use Rattle.charlotte_calls.specs.declared.calls.Call.TheVariants as call
use Rattle.charlotte_calls.specs.declared.calls.Cause.{Cause}
use Rattle.charlotte_calls.specs.declared.calls.Report.{Report}
use Rattle.charlotte_calls.specs.declared.calls.ServiceStep.{ServiceStep}
use Rattle.charlotte_calls.specs.declared.calls.ServiceStep.TheVariants as step
use Rattle.charlotte_calls.specs.declared.names.EndId.{EndId}
use Rattle.charlotte_calls.specs.declared.names.Pid.{Pid}
use Rattle.charlotte_calls.specs.declared.setting.Setting.{Setting}
use Rattle.kernel_entries.specs.declared.entry.Happened.{Happened}
use Rattle.kernel_entries.specs.declared.entry.Happened.TheVariants as happened
use Rattle.kernel_entries.specs.declared.entry.Placed.{Placed}
use Rattle.kernel_step.specs.Start.{home}
use Rattle.service_step.specs.Run.{IsRunFrom, state_after}
use Rattle.service_step.specs.State.{State}
use Rattle.service_streams.specs.Streams.{steps_in}

-- the step of a call that is granted, as a list of one. A Print has none
abbrev pub IsOwn : Pid → Call → List ServiceStep → Type 0
IsOwn p call.Make steps = (a : EndId) × (b : EndId) × (steps ≡ step.Make p a b ∷ [])
IsOwn p (call.Destroy on) steps = steps ≡ step.Destroy on ∷ []
IsOwn p (call.Send on bytes xs) steps = (n : ℕ) × (steps ≡ step.Send on n bytes xs ∷ [])
IsOwn p (call.Receive on) steps = steps ≡ step.Receive on ∷ []
IsOwn p (call.Cancel on w) steps = steps ≡ step.Cancel on w ∷ []
IsOwn p call.Wait steps = steps ≡ step.Wait p ∷ []
IsOwn p (call.Print bytes) steps = steps ≡ []
IsOwn p call.Exit steps = steps ≡ step.Exit p ∷ []

-- a step that is no process's call
abbrev pub IsUncalled : ServiceStep → Type 0
IsUncalled (step.Report p r) = ⊤
IsUncalled (step.Match e n) = ⊤
IsUncalled (step.Take e n p late) = ⊤
IsUncalled (step.Complete e n) = ⊤
IsUncalled (step.Withdraw e) = ⊤
IsUncalled (step.Free e) = ⊤
IsUncalled (step.Notice e dead) = ⊤
IsUncalled (step.Back e n dead) = ⊤
IsUncalled _ = ⊥

-- what comes of a call that is granted, as a list of one or none: a report of p answers its Wait, or the message of its Send is matched
abbrev pub IsToldBy : Pid → Call → List ServiceStep → Type 0
IsToldBy p call.Wait steps = (steps ≡ []) ⊎ ((r : Report) × (steps ≡ step.Report p r ∷ []))
IsToldBy p (call.Send on bytes xs) steps = (steps ≡ []) ⊎ ((n : ℕ) × (steps ≡ step.Match on n ∷ []))
IsToldBy p c steps = steps ≡ []

-- the steps of a call: it is refused, or it is granted and this comes of it
pub data AreOfCall (p : Pid) (c : Call) (steps : List ServiceStep) : Type 0 where
  Refused : (cause : Cause) → steps ≡ step.Refuse p c cause ∷ [] → AreOfCall p c steps
  Granted : (own more : List ServiceStep) → steps ≡ own ++ more → IsOwn p c own → IsToldBy p c more → AreOfCall p c steps

-- those of an entry, of a kernel
abbrev pub AreOfEntry : Setting → ℕ → Happened → List ServiceStep → Type 0
AreOfEntry g k (happened.Asked p c) steps = (p.0 < length g.homes) × (home g p ≡ k) × AreOfCall p c steps
AreOfEntry g k (happened.Took from picture) steps = AllByRecursion IsUncalled steps

-- the entry, in a state of the service, with its part of the service's run
pub record IsEntry (g : Setting) (s : State) (e : Placed) (part : List (ServiceStep × State)) : Type 0 where
  pub run : IsRunFrom s part
  pub steps : steps_in part ≡ e.entry.steps
  pub own : AreOfEntry g e.kernel e.entry.what e.entry.steps
  -- the processes of other kernels are in the phase in which they were
  pub others : (q : Pid) → home g q ≢ e.kernel → ((state_after s part).process q.0).phase ≡ (s.process q.0).phase

-- each entry, with its part of the run
abbrev pub AreEntries : Setting → State → List Placed → List (List (ServiceStep × State)) → Type 0
AreEntries g s [] [] = ⊤
AreEntries g s [] (part ∷ parts) = ⊥
AreEntries g s (e ∷ es) [] = ⊥
AreEntries g s (e ∷ es) (part ∷ parts) = IsEntry g s e part × AreEntries g (state_after s part) es parts
