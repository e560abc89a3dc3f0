-- The steps of a history, each with the state that it leaves, are a service run.
use Rattle.std.proofs.Common.{◌≡◌, ℕ, List, [], ◌∷◌, map, ap, refl}
use Rattle.charlotte_calls.specs.declared.calls.ServiceStep.{ServiceStep}
use Rattle.history_run.specs.Runs.{IsRun, IsRunOf}
use Rattle.history_text.proofs.Valid.{setting_is_valid}
use Rattle.history_text.specs.Lines.{Numbered, told_by}
use Rattle.service_runs.proofs.Lawful.{runs_are_lawful}
use Rattle.service_step.specs.Lawful.{IsLawful}
use Rattle.service_step.specs.Run.{IsRunFrom, IsServiceRun, start_state}
use Rattle.service_step.specs.State.{State}

run_made : (s : State) (acts : List Numbered) (t : State) → IsRun s acts t
    → (run : List (ServiceStep × State)) × (map (λ made. made.0) run ≡ map (λ told. told.act.step) acts) × IsRunFrom s run
run_made s [] t run = ([], refl, tt)
run_made s (a ∷ acts) t run =
    let rest = run_made run.0 acts t run.2 in
    ((a.act.step, run.0) ∷ rest.0, ap (λ steps. a.act.step ∷ steps) rest.1, (run.1.made, rest.2))

pub accepted_is_lawful : (bytes : List ℕ) → IsRunOf (told_by bytes)
    → (run : List (ServiceStep × State)) × (map (λ made. made.0) run ≡ map (λ told. told.act.step) (told_by bytes).acts)
    × IsServiceRun (told_by bytes).setting run × IsLawful (start_state (told_by bytes).setting) run
accepted_is_lawful bytes all =
    let told = told_by bytes in
    let made = run_made (start_state told.setting) told.acts all.0 all.1 in
    (made.0, made.1, made.2, runs_are_lawful told.setting made.0 (setting_is_valid bytes) made.2)
