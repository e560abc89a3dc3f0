-- The entries of a run show just the steps of the service that go with it.
use Rattle.std.proofs.Common.{◌≡◌, ℕ, List, [], ◌∷◌, ◌++◌, map, refl, sym, ap, ◌∙◌}
use Rattle.std.proofs.lemmas.List.{map-append}
use Rattle.charlotte_calls.specs.declared.calls.ServiceStep.{ServiceStep}
use Rattle.charlotte_calls.specs.declared.setting.Setting.{Setting}
use Rattle.kernel_world.specs.Run.{IsRecord}
use Rattle.kernel_world.specs.World.{World, Event, happens, noted, start}
use Rattle.kernel_entries.specs.declared.entry.Placed.{Placed}
use Rattle.charlotte_calls.specs.Setting.{IsValid}
use Rattle.service_step.specs.Run.{start_state, state_after}
use Rattle.service_step.specs.State.{State}
use Rattle.theorem.proofs.Run.{run-is-lawful}
use Rattle.theorem.specs.Law.{GoesWithEach, IsServedLawfully, joined}
use Rattle.theorem.specs.Record.{IsLawfulRecord, steps_of}

-- the step of each part of a run of the service
abbrev step_in : ServiceStep × State → ServiceStep
step_in made = made.0

noted-steps : (w : World) (s : State) (es : List Event) (parts : List (List (ServiceStep × State))) → GoesWithEach w s es parts → steps_of (noted w es) ≡ map (λ made. made.0) (joined parts)
noted-steps w s [] [] goes = refl
noted-steps w s [] (part ∷ parts) goes = absurd goes
noted-steps w s (e ∷ es) [] goes = absurd goes
noted-steps w s (e ∷ es) (part ∷ parts) goes =
    ap (λ l. l ++ steps_of (noted (happens w e) es)) (sym goes.0.steps) ∙ ap (λ l. map step_in part ++ l) (noted-steps (happens w e) (state_after s part) es parts goes.1) ∙ sym (map-append step_in part (joined parts))

-- the record of a run of a valid setting is lawful
pub record-is-lawful : (g : Setting) (es : List Event) (merged : List Placed) → IsValid g → IsRecord g es merged → IsLawfulRecord g merged
record-is-lawful g es merged valid recorded =
    let lawfully : IsServedLawfully g es = run-is-lawful g es valid recorded.run in
    record {
      run = es;
      recorded = recorded;
      lawfully = lawfully;
      steps = ap steps_of (sym recorded.entries) ∙ noted-steps (start g) (start_state g) es lawfully.served.parts lawfully.served.each;
    }
