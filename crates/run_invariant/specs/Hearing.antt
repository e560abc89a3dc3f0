-- What steps of the service tell of processes.
use Rattle.std.specs.Prelude.{ℕ, nat_eq, if◌then◌else◌, List, [], ◌∷◌, Option, Some, None}
use Rattle.charlotte_calls.specs.declared.calls.Answer.{Answer}
use Rattle.charlotte_calls.specs.declared.calls.Call.{Call}
use Rattle.charlotte_calls.specs.declared.calls.ServiceStep.{ServiceStep}
use Rattle.entry_steps.specs.Told.{later_told}
use Rattle.request_runs.specs.Acting.{Fleet}
use Rattle.request_acts.specs.Acted.{process}
use Rattle.run_invariant.specs.Invariant.{Owners}
use Rattle.run_invariant.specs.Owners.{Owner, Pends, Status, Told, owner_of}

-- a call of which this was told
abbrev pub told_of : Call → Option Answer → Status
told_of c None = Pends c
told_of c (Some a) = Told c a

-- one step more, which is no process's call
abbrev pub hears_step : ℕ → ServiceStep → Status → Status
hears_step i made (Pends c) = told_of c (later_told (process i) c (made ∷ []))
hears_step i made status = status

-- and more
abbrev pub hears_steps : ℕ → List ServiceStep → Status → Status
hears_steps i [] status = status
hears_steps i (made ∷ more) status = hears_steps i more (hears_step i made status)

-- all processes hear of it
abbrev pub all_hear : ServiceStep → Owners → Owners
all_hear made os = λ i. record (os i) { status = hears_step i made (os i).status }

abbrev pub all_hear_steps : List ServiceStep → Owners → Owners
all_hear_steps steps os = λ i. record (os i) { status = hears_steps i steps (os i).status }

-- one owner is so, and all others are as they were
abbrev pub with_owner : ℕ → Owner → Owners → Owners
with_owner i o os = λ j. if nat_eq i j then o else os j

-- a process asked this call, and was told this at once
abbrev pub owner_told : Call → Option Answer → Owner → Owner
owner_told c told o = record o { status = told_of c told }

-- the owners in a replay of all processes
abbrev pub owners : Fleet → Owners
owners f = λ i. owner_of (f i)
