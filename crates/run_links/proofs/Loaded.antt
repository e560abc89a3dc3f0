-- Each process of a plan that was loaded has code that can be run, and as many ends as that has params.
use Rattle.std.proofs.Common.{arith, ◌≡◌, ◌≤◌, inl, inr, ℕ, List, [], ◌∷◌, length, All, Option, Some, None, Result, Ok, Err, refl, sym, subst, ◌∙◌}
use Rattle.std.specs.Prelude.{IfOk, codes as text_codes}
use Rattle.std.specs.List.{AllByRecursion}
use Rattle.std.proofs.lemmas.List.Elements.{All-head, All-tail}
use Rattle.charlotte_calls.specs.Setting.{IsValid}
use Rattle.compiler_runnable.specs.Runnable.{IsRunnable}
use Rattle.lynx_code.specs.declared.code.Code.{Code}
use Rattle.lynx_command.specs.Failures.{failure_of_file}
use Rattle.lynx_command.specs.Found.{read}
use Rattle.lynx_command.specs.Limits.{most_bytes}
use Rattle.lynx_command.specs.declared.failure.Failure.{Failure}
use Rattle.lynx_command.specs.declared.failure.Failure.TheVariants.{Plan as BrokenPlan, Unbuilt}
use Rattle.lynx_outside.specs.Files.{IsWithin}
use Rattle.lynx_outside.specs.Logged.{Read}
use Rattle.lynx_outside.specs.declared.files.FileAnswer.{FileAnswer}
use Rattle.plan_text.specs.Reading.{plan_of}
use Rattle.plan_text.specs.declared.plan.Hosting.{Hosting}
use Rattle.plan_text.specs.declared.plan.Plan.{Plan}
use Rattle.plan_text.proofs.Found.{plan_spelled, plan_valid}
use Rattle.plan_text.proofs.Hostless.{files_and_lines}
use Rattle.lynx_load.specs.Ends.{ends_of_each}
use Rattle.lynx_load.specs.Loading.{FitsEnds, GoesOn, IsModule, IsPlan, LoadCodes, Loading, Loads, LoadsHosted, LoadsPlan, Unloaded, fitted_at, onto_codes, unfit_line}
use Rattle.lynx_load.specs.Started.{AreFit}
use Rattle.lynx_load.proofs.Modules.{codes_many}
use Rattle.lynx_load.proofs.Starting.{all_fit, ends_many}
use Rattle.run_links.proofs.Checked.{given_runnable, no_err, same_ok}

abbrev AreRunnable : List Code → Type 0
AreRunnable made = AllByRecursion IsRunnable made

-- ---- the modules

one_runnable : (answer : Result (List ℕ) FileAnswer) (code : Code) → IsModule answer (Ok code) → IfOk answer (λ bytes. length bytes ≤ most_bytes) → IsRunnable code
one_runnable (Ok bytes) code gives within = given_runnable bytes (omega (arith, within)) code gives
one_runnable (Err answer) code none within = absurd (no_err code (failure_of_file answer) (Ok code) refl none)

onto : (code : Code) (made : List Code) (others : Result (List Code) Unloaded) → Ok made ≡ onto_codes code others → IsRunnable code → ((cs : List Code) → others ≡ Ok cs → AreRunnable cs) → AreRunnable made
onto code made (Ok cs) is one rest = subst AreRunnable (same_ok (code ∷ cs) made (Ok made) is refl) (one, rest cs refl)
onto code made (Err fault) is one rest = absurd (no_err made fault (Ok made) refl is)

-- a module is followed by others
goes_on : (file : List ℕ) (files : List (List ℕ)) (answer : Result (List ℕ) FileAnswer) (first : Result Code Failure) (reads : List Read) (made : List Code) → IsModule answer first
    → IfOk answer (λ bytes. length bytes ≤ most_bytes) → GoesOn file (LoadCodes files) first reads (Ok made) → ((cs : List Code) → LoadCodes files reads (Ok cs) → AreRunnable cs) → AreRunnable made
goes_on file files answer (Err failure) reads made is within on others = absurd (no_err made (record { file = file; failure = failure }) (Ok made) refl on.1)
goes_on file files answer (Ok code) reads made is within on others =
    onto code made on.0 on.2 (one_runnable answer code is within) (λ cs same. others cs (subst (LoadCodes files reads) same on.1))

all_runnable : (files : List (List ℕ)) (reads : List Read) (made : List Code) → LoadCodes files reads (Ok made) → All IsWithin reads → AreRunnable made
all_runnable [] reads made h within = subst AreRunnable (same_ok [] made (Ok made) h.1 refl) tt
all_runnable (file ∷ files) reads made h within =
    let these : All IsWithin (read file most_bytes h.0 ∷ h.1) = subst (All IsWithin) h.2 within in
    let rest : All IsWithin h.1 = All-tail IsWithin (read file most_bytes h.0) h.1 these in
    goes_on file files h.0 h.3 h.1 made h.4 (All-head IsWithin (read file most_bytes h.0) h.1 these) h.5 (λ cs loads. all_runnable files h.1 cs loads rest)

-- ---- the plan

-- the code of each module can be run, its process has an end for each param, and the setting is valid
pub record IsSound (x : Loading) : Type 0 where
  pub runnable : AllByRecursion IsRunnable x.codes
  pub fit : AreFit x.codes (ends_of_each x.plan.setting)
  pub valid : IsValid x.plan.setting

no_line : (name : List ℕ) (y x : Loading) (line : Option ℕ) → Ok x ≡ fitted_at name y line → (y ≡ x) × (line ≡ None)
no_line name y x None is = (same_ok y x (Ok x) is refl, refl)
no_line name y x (Some n) is = absurd (no_err x (record { file = name; failure = BrokenPlan n 8 }) (Ok x) refl is)

module _ (name : List ℕ) (x : Loading) where
  module _ (bytes : List ℕ) (plan : Plan) (is : plan_of bytes ≡ Ok plan) (none : plan.hosts ≡ []) (reads : List Read) (within : All IsWithin reads) where
    sized : (made : List Code) → LoadCodes plan.files reads (Ok made) → unfit_line made (ends_of_each plan.setting) plan.lines ≡ None → IsSound (record { plan = plan; codes = made })
    sized made loads fits =
        let many = files_and_lines bytes plan (plan_spelled bytes plan is) none in
        let ends = ends_many plan.setting 0 plan.setting.homes in
        let as_files = codes_many plan.files reads made loads in
        record {
          runnable = all_runnable plan.files reads made loads within;
          fit = all_fit made (ends_of_each plan.setting) plan.lines (as_files ∙ many.0 ∙ sym ends) (many.1 ∙ sym ends) fits;
          valid = plan_valid bytes (Ok plan) is;
        }

    compiled : (made : Result (List Code) Unloaded) → LoadCodes plan.files reads made → FitsEnds name plan made (Ok x) → IsSound x
    compiled (Err fault) loads fits = absurd (no_err x fault (Ok x) refl fits)
    compiled (Ok made) loads (inl wants) = absurd wants
    compiled (Ok made) loads (inr fits) =
        let same = no_line name (record { plan = plan; codes = made }) x (unfit_line made (ends_of_each plan.setting) plan.lines) fits in
        subst IsSound same.0 (sized made loads same.1)

  hosted : (bytes : List ℕ) (plan : Plan) (hosts : List Hosting) (reads : List Read) → plan_of bytes ≡ Ok plan → plan.hosts ≡ hosts → All IsWithin reads → LoadsHosted name plan hosts reads (Ok x) → IsSound x
  hosted bytes plan [] reads is none within h = compiled bytes plan is none reads within h.0 h.1 h.2
  hosted bytes plan (host ∷ hosts) reads is some within h = absurd (no_err x (record { file = text_codes "hosts"; failure = Unbuilt }) (Ok x) refl h.1)

  planned : (answer : Result (List ℕ) FileAnswer) (first : Result Plan Failure) (reads : List Read) → IsPlan answer first → All IsWithin reads → LoadsPlan name first reads (Ok x) → IsSound x
  planned answer (Err failure) reads is within h = absurd (no_err x (record { file = name; failure = failure }) (Ok x) refl h.1)
  planned (Ok bytes) (Ok plan) reads is within h = hosted bytes plan plan.hosts reads is refl within h
  planned (Err answer) (Ok plan) reads is within h = absurd (no_err plan (failure_of_file answer) (Ok plan) refl is)

  pub loaded_sound : (reads : List Read) → Loads name reads (Ok x) → All IsWithin reads → IsSound x
  loaded_sound reads h within = planned h.0 h.3 h.1 h.4 (All-tail IsWithin (read name most_bytes h.0) h.1 (subst (All IsWithin) h.2 within)) h.5
