-- A plan is loaded, in three stages: it is read, its modules are loaded, and each process has an end for each param.
use Rattle.std.proofs.Common.{◌≡◌, ◌⊎◌, inl, inr, ◌==◌, ℕ, List, [], ◌∷◌, ◌++◌, Bool, true, false, length, Option, Some, None, Result, Ok, Err, refl, sym, ap, subst, ◌∙◌}
use Rattle.std.specs.Prelude.{codes}
use Rattle.charlotte_calls.specs.declared.names.EndId.{EndId}
use Rattle.lynx_code.specs.declared.code.Code.{Code}
use Rattle.lynx_command.proofs.Courses.{no_reads}
use Rattle.lynx_command.specs.Found.{read}
use Rattle.lynx_command.specs.Limits.{most_bytes}
use Rattle.lynx_command.specs.declared.failure.Failure.{Failure}
use Rattle.lynx_command.specs.declared.failure.Failure.TheVariants.{NoMemory, Plan as BrokenPlan, Unbuilt}
use Rattle.lynx_outside.proofs.Chains.{WereRead-append}
use Rattle.lynx_outside.specs.Files.{Source, WereRead}
use Rattle.lynx_outside.specs.Logged.{Read}
use Rattle.lynx_outside.specs.declared.files.FileAnswer.{FileAnswer}
use Rattle.plan_text.specs.declared.plan.Hosting.{Hosting}
use Rattle.plan_text.specs.declared.plan.Plan.{Plan}
use Rattle.lynx_load.specs.Ends.{ends_of_each}
use Rattle.lynx_load.specs.Loading.{FitsEnds, IsPlan, LoadCodes, Loading, Loads, LoadsHosted, Unloaded, fitted, fitted_at, unfit_line, unloaded}
use Rattle.lynx_load.specs.Started.{AreStarted, IsLoadedAs}
use Rattle.lynx_load.specs.Told.{AreCodes, IsToldAs, LoadsOnto}
use Rattle.lynx_load.specs.declared.fault.LoadFault.{LoadFault}
use Rattle.lynx_load.specs.declared.fault.LoadFault.TheVariants as fault
use Rattle.lynx_load.specs.declared.loaded.Loaded.{Loaded}
use Rattle.lynx_load.proofs.Modules.{codes_many}

-- ---- each stage

-- the plan was read, with this outcome
abbrev pub ReadsPlan : Source → Source → List ℕ → Result Plan Failure → Type 0
ReadsPlan before after name first = (answer : Result (List ℕ) FileAnswer) × WereRead before after (read name most_bytes answer ∷ []) × IsPlan answer first

-- what the reads of a stage found is what the result says
abbrev pub Finds : Source → Source → (List Read → Result Loading Unloaded → Type 0) → Result Loaded LoadFault → Type 0
Finds before after Stage result = (reads : List Read) × (found : Result Loading Unloaded) × WereRead before after reads × Stage reads found × IsLoadedAs result found

-- the outcome for a plan with the codes of its modules
abbrev pub Fits : List ℕ → Plan → List Code → Result Loaded LoadFault → Type 0
Fits name plan made result = (found : Result Loading Unloaded) × FitsEnds name plan (Ok made) found × IsLoadedAs result found

-- ---- the plan

pub no_plan : (before after : Source) (name : List ℕ) (failure : Failure) (why : LoadFault) → ReadsPlan before after name (Err failure) → IsToldAs why (record { file = name; failure = failure })
    → Finds before after (Loads name) (Err why)
no_plan before after name failure why one told = (read name most_bytes one.0 ∷ [], unloaded name failure, one.1, (one.0, [], refl, Err failure, one.2, (refl, refl)), told)

pub plan_read : (before mid after : Source) (name : List ℕ) (plan : Plan) (result : Result Loaded LoadFault) → ReadsPlan before mid name (Ok plan)
    → Finds mid after (LoadsHosted name plan plan.hosts) result → Finds before after (Loads name) result
plan_read before mid after name plan result one rest = (
  read name most_bytes one.0 ∷ rest.0,
  rest.1,
  WereRead-append before mid after (read name most_bytes one.0 ∷ []) rest.0 one.1 rest.2,
  (one.0, rest.0, refl, Ok plan, one.2, rest.3),
  rest.4,
)

-- ---- the modules

hosted : (name : List ℕ) (plan : Plan) (hosts : List Hosting) → (length hosts == 0) ≡ false → LoadsHosted name plan hosts [] (unloaded (codes "hosts") Unbuilt)
hosted name plan [] some = absurd cc
hosted name plan (h ∷ hs) some = (refl, refl)

-- a process is to move
pub not_built : (s : Source) (name : List ℕ) (plan : Plan) (why : LoadFault) → (length plan.hosts == 0) ≡ false → IsToldAs why (record { file = codes "hosts"; failure = Unbuilt })
    → Finds s s (LoadsHosted name plan plan.hosts) (Err why)
not_built s name plan why some told = ([], unloaded (codes "hosts") Unbuilt, no_reads s, hosted name plan plan.hosts some, told)

on_hosts : (before after : Source) (name : List ℕ) (plan : Plan) (result : Result Loaded LoadFault) → plan.hosts ≡ [] → Finds before after (LoadsHosted name plan []) result → Finds before after (LoadsHosted name plan plan.hosts) result
on_hosts before after name plan result none finds = subst (λ (hs : List Hosting). Finds before after (LoadsHosted name plan hs) result) (sym none) finds

no_code_found : (before after : Source) (name : List ℕ) (plan : Plan) (why : LoadFault) (reads : List Read) (found : Result (List Code) Unloaded) (new : List Code)
    → WereRead before after reads → LoadCodes plan.files reads found → AreCodes (Err why) [] new found → Finds before after (LoadsHosted name plan []) (Err why)
no_code_found before after name plan why reads (Err x) new were loads told = (reads, Err x, were, (Err x, loads, refl), told)
no_code_found before after name plan why reads (Ok made) new were loads told = absurd told

pub no_code : (before after : Source) (name : List ℕ) (plan : Plan) (why : LoadFault) (new : List Code) → plan.hosts ≡ [] → LoadsOnto before after plan.files (Err why) [] new
    → Finds before after (LoadsHosted name plan plan.hosts) (Err why)
no_code before after name plan why new none loads = on_hosts before after name plan (Err why) none (no_code_found before after name plan why loads.0 loads.1 new loads.2 loads.3 loads.4)

-- what is loaded of the files of a plan, behind no codes
pub onto_nothing : (before after : Source) (files same : List (List ℕ)) (result : Result (Unit {0}) LoadFault) (old new : List Code) → same ≡ files → old ≡ [] → LoadsOnto before after same result old new
    → LoadsOnto before after files result [] new
onto_nothing before after files same result old new are none loads =
    subst (λ (fs : List (List ℕ)). LoadsOnto before after fs result [] new) are (subst (λ (cs : List Code). LoadsOnto before after same result cs new) none loads)

-- each has code
codes_are : (files : List (List ℕ)) (reads : List Read) (found : Result (List Code) Unloaded) (new : List Code) → LoadCodes files reads found → AreCodes (Ok tt) [] new found → LoadCodes files reads (Ok new)
codes_are files reads (Ok made) new loads is = subst (λ (cs : List Code). LoadCodes files reads (Ok cs)) (sym is) loads
codes_are files reads (Err x) new loads is = absurd is

pub codes_read : (before after : Source) (name : List ℕ) (plan : Plan) (new : List Code) (result : Result Loaded LoadFault) → plan.hosts ≡ [] → LoadsOnto before after plan.files (Ok tt) [] new
    → Fits name plan new result → Finds before after (LoadsHosted name plan plan.hosts) result
codes_read before after name plan new result none loads fits =
    let are = codes_are plan.files loads.0 loads.1 new loads.3 loads.4 in
    on_hosts before after name plan result none (loads.0, fits.0, loads.2, (Ok new, are, fits.1), fits.2)

pub as_many : (before after : Source) (files : List (List ℕ)) (new : List Code) → LoadsOnto before after files (Ok tt) [] new → length new ≡ length files
as_many before after files new loads = codes_many files loads.0 new (codes_are files loads.0 loads.1 new loads.3 loads.4)

-- ---- the ends

pub wants : (name : List ℕ) (plan : Plan) (made : List Code) → Fits name plan made (Err fault.NoMemory)
wants name plan made = (unloaded name NoMemory, inl refl, tt)

pub same_line : (made cs : List Code) (each es : List (List EndId)) (lines ls : List ℕ) → cs ≡ made → es ≡ each → ls ≡ lines → unfit_line cs es ls ≡ unfit_line made each lines
same_line made cs each es lines ls p q r = cc

-- what the code found of the ends is so of the setting's
pub unfit : (name : List ℕ) (plan : Plan) (made : List Code) (each : List (List EndId)) (n : ℕ) (why : LoadFault) → each ≡ ends_of_each plan.setting → Some n ≡ unfit_line made each plan.lines
    → IsToldAs why (record { file = name; failure = BrokenPlan n 8 }) → Fits name plan made (Err why)
unfit name plan made each n why is found told =
    let same = found ∙ ap (λ (es : List (List EndId)). unfit_line made es plan.lines) is in
    (unloaded name (BrokenPlan n 8), inr (ap (fitted_at name (record { plan = plan; codes = made })) same), told)

pub all_started : (name : List ℕ) (plan : Plan) (made : List Code) (each : List (List EndId)) (loaded : Loaded) → each ≡ ends_of_each plan.setting → None ≡ unfit_line made each plan.lines
    → loaded.setting ≡ plan.setting → AreStarted plan.setting.version made each loaded.programs.items → Fits name plan made (Ok loaded)
all_started name plan made each loaded is found setting started =
    let same = found ∙ ap (λ (es : List (List EndId)). unfit_line made es plan.lines) is in
    let x : Loading = record { plan = plan; codes = made } in
    (Ok x, inr (ap (fitted_at name x) same), record { setting = setting; programs = subst (λ (es : List (List EndId)). AreStarted plan.setting.version made es loaded.programs.items) is started })
