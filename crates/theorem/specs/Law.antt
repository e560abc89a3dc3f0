-- What is claimed of a run: its events are, by their service steps, a lawful run of the link service, and the world stands for the
-- state of the service after each of them.
use Rattle.std.specs.Prelude.{◌≡◌, List, [], ◌∷◌, ◌++◌, map}
use Rattle.charlotte_calls.specs.declared.calls.ServiceStep.{ServiceStep}
use Rattle.charlotte_calls.specs.declared.setting.Setting.{Setting}
use Rattle.kernel_world.specs.World.{World, Event, happens, outcome, start}
use Rattle.service_step.specs.Lawful.{IsLawful}
use Rattle.service_step.specs.Run.{IsRunFrom, IsServiceRun, state_after, start_state}
use Rattle.service_step.specs.State.{State}
use Rattle.theorem_meaning.specs.StandsFor.{StandsFor}

-- the service goes with an event: its steps are allowed one after the other, and then the world stands for the state that they leave
pub record GoesWith (w : World) (s : State) (e : Event) (part : List (ServiceStep × State)) : Type 0 where
  pub steps : map (λ made. made.0) part ≡ (outcome w e).steps
  pub run : IsRunFrom s part
  pub stands : StandsFor (happens w e) (state_after s part)

-- and with each of these, with a part of its run for each
abbrev pub GoesWithEach : World → State → List Event → List (List (ServiceStep × State)) → Type 0
GoesWithEach w s [] [] = Unit {0}
GoesWithEach w s [] (part ∷ parts) = ⊥
GoesWithEach w s (e ∷ es) [] = ⊥
GoesWithEach w s (e ∷ es) (part ∷ parts) = GoesWith w s e part × GoesWithEach (happens w e) (state_after s part) es parts

-- the parts one after the other
abbrev pub joined : List (List (ServiceStep × State)) → List (ServiceStep × State)
joined [] = []
joined (part ∷ parts) = part ++ joined parts

-- the service goes with a run of a setting from its start to its end
pub record IsServed (g : Setting) (es : List Event) : Type 0 where
  pub parts : List (List (ServiceStep × State))
  pub begins : StandsFor (start g) (start_state g)
  pub each : GoesWithEach (start g) (start_state g) es parts
  pub run : IsServiceRun g (joined parts)

-- and so lawfully
pub record IsServedLawfully (g : Setting) (es : List Event) : Type 0 where
  pub served : IsServed g es
  pub lawful : IsLawful (start_state g) (joined served.parts)
