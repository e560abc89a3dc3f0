-- What is loaded of a plan: the plan is read, then each of its modules once, in order, and compiled from the bytes of that read; then each
-- process has to have an end for each param. The first failure ends it.
use Rattle.std.specs.Prelude.{◌≡◌, ◌⊎◌, ℕ, ◌==◌, List, [], ◌∷◌, length, if◌then◌else◌, codes, Option, Some, None, Result, Ok, Err}
use Rattle.charlotte_calls.specs.declared.names.EndId.{EndId}
use Rattle.compiler_source.specs.Compiled.{GivesCode, IsCompiledAs}
use Rattle.lynx_code.specs.declared.code.Code.{Code as ACode}
use Rattle.lynx_command.specs.Failing.{FailsAs}
use Rattle.lynx_command.specs.Failures.{failure_of_file}
use Rattle.lynx_command.specs.Found.{read}
use Rattle.lynx_command.specs.Limits.{most_bytes}
use Rattle.lynx_command.specs.declared.failure.Failure.{Failure}
use Rattle.lynx_command.specs.declared.failure.Failure.TheVariants.{NoMemory, Plan as BrokenPlan, Unbuilt}
use Rattle.lynx_outside.specs.Logged.{Read}
use Rattle.lynx_outside.specs.declared.files.FileAnswer.{FileAnswer}
use Rattle.lynx_plan.specs.declared.fault.PlanFault.{PlanFault}
use Rattle.lynx_plan.specs.declared.fault.PlanFault.TheVariants.{BadPlan}
use Rattle.plan_text.specs.Reading.{plan_of}
use Rattle.plan_text.specs.declared.plan.Hosting.{Hosting}
use Rattle.plan_text.specs.declared.plan.Plan.{Plan}
use Rattle.lynx_load.specs.Ends.{ends_of_each}

-- why a plan was not loaded, with the name of the file of which that is told
pub record Unloaded : Type 0 where
  pub file : List ℕ
  pub failure : Failure

abbrev pub unloaded : {X : Type 0} → List ℕ → Failure → Result X Unloaded
unloaded file failure = Err (record { file = file; failure = failure })

-- memory was wanting, which can be at any point
abbrev pub WantsMemory : {X : Type 0} → Result X Unloaded → Type 0
WantsMemory (Ok x) = ⊥
WantsMemory (Err fault) = fault.failure ≡ NoMemory

-- ---- modules

-- a module of which a read answered so: its code, or why it has none
abbrev pub IsModule : Result (List ℕ) FileAnswer → Result ACode Failure → Type 0
IsModule (Ok bytes) (Ok code) = GivesCode bytes (Ok code)
IsModule (Ok bytes) (Err failure) = FailsAs (IsCompiledAs bytes) failure
IsModule (Err answer) found = found ≡ Err (failure_of_file answer)

abbrev pub onto_codes : ACode → Result (List ACode) Unloaded → Result (List ACode) Unloaded
onto_codes code (Ok codes) = Ok (code ∷ codes)
onto_codes code (Err fault) = Err fault

-- a module is followed by others where it has code
abbrev pub GoesOn : List ℕ → (List Read → Result (List ACode) Unloaded → Type 0) → Result ACode Failure → List Read → Result (List ACode) Unloaded → Type 0
GoesOn file Others (Err failure) reads found = (reads ≡ []) × (found ≡ unloaded file failure)
GoesOn file Others (Ok code) reads found = (others : Result (List ACode) Unloaded) × Others reads others × (found ≡ onto_codes code others)

-- the modules of these files are read in order, each once, up to the first that has no code
abbrev pub LoadCodes : List (List ℕ) → List Read → Result (List ACode) Unloaded → Type 0
LoadCodes [] reads found = (reads ≡ []) × (found ≡ Ok [])
LoadCodes (file ∷ files) reads found =
    (answer : Result (List ℕ) FileAnswer) × (others : List Read) × (reads ≡ read file most_bytes answer ∷ others)
    × (first : Result ACode Failure) × IsModule answer first × GoesOn file (LoadCodes files) first others found

-- ---- a plan

-- a plan with the code of each module
pub record Loading : Type 0 where
  pub plan : Plan
  pub codes : List ACode

-- the line of the first process whose module has another number of params than the process has ends
abbrev pub unfit_line : List ACode → List (List EndId) → List ℕ → Option ℕ
unfit_line (code ∷ codes) (ends ∷ others) (line ∷ lines) = if length ends == code.params then unfit_line codes others lines else Some line
unfit_line codes ends lines = None

abbrev pub fitted_at : List ℕ → Loading → Option ℕ → Result Loading Unloaded
fitted_at name x (Some line) = unloaded name (BrokenPlan line 8)
fitted_at name x None = Ok x

abbrev pub fitted : List ℕ → Plan → List ACode → Result Loading Unloaded
fitted name plan codes = fitted_at name (record { plan = plan; codes = codes }) (unfit_line codes (ends_of_each plan.setting) plan.lines)

-- behind the modules, each process is to have an end for each param
abbrev pub FitsEnds : List ℕ → Plan → Result (List ACode) Unloaded → Result Loading Unloaded → Type 0
FitsEnds name plan (Err fault) found = found ≡ Err fault
FitsEnds name plan (Ok codes) found = WantsMemory found ⊎ (found ≡ fitted name plan codes)

-- a plan with hosts is not loaded
abbrev pub LoadsHosted : List ℕ → Plan → List Hosting → List Read → Result Loading Unloaded → Type 0
LoadsHosted name plan (h ∷ hs) reads found = (reads ≡ []) × (found ≡ unloaded (codes "hosts") Unbuilt)
LoadsHosted name plan [] reads found = (compiled : Result (List ACode) Unloaded) × LoadCodes plan.files reads compiled × FitsEnds name plan compiled found

-- a fault of a plan is told as the failure of its name; want of memory comes at any plan
abbrev pub BreaksAs : Result Plan PlanFault → Failure → Type 0
BreaksAs read (BrokenPlan line rule) = read ≡ Err (BadPlan line rule)
BreaksAs read NoMemory = Unit {0}
BreaksAs read failure = ⊥

-- a plan of which a read answered so, or why there is none
abbrev pub IsPlan : Result (List ℕ) FileAnswer → Result Plan Failure → Type 0
IsPlan (Ok bytes) (Ok plan) = plan_of bytes ≡ Ok plan
IsPlan (Ok bytes) (Err failure) = BreaksAs (plan_of bytes) failure
IsPlan (Err answer) found = found ≡ Err (failure_of_file answer)

abbrev pub LoadsPlan : List ℕ → Result Plan Failure → List Read → Result Loading Unloaded → Type 0
LoadsPlan name (Err failure) reads found = (reads ≡ []) × (found ≡ unloaded name failure)
LoadsPlan name (Ok plan) reads found = LoadsHosted name plan plan.hosts reads found

-- the plan of this name is loaded
abbrev pub Loads : List ℕ → List Read → Result Loading Unloaded → Type 0
Loads name reads found =
    (answer : Result (List ℕ) FileAnswer) × (others : List Read) × (reads ≡ read name most_bytes answer ∷ others)
    × (first : Result Plan Failure) × IsPlan answer first × LoadsPlan name first others found
