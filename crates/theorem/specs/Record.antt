-- What is claimed of the entries of a run in the order of a merge, as they are printed.
use Rattle.std.specs.Prelude.{◌≡◌, List, [], ◌∷◌, ◌++◌, map}
use Rattle.charlotte_calls.specs.declared.calls.ServiceStep.{ServiceStep}
use Rattle.charlotte_calls.specs.declared.setting.Setting.{Setting}
use Rattle.kernel_world.specs.Run.{IsRecord}
use Rattle.kernel_world.specs.World.{Event}
use Rattle.kernel_entries.specs.declared.entry.Placed.{Placed}
use Rattle.theorem.specs.Law.{IsServedLawfully, joined}

-- the service steps of these entries, one after the other
abbrev pub steps_of : List Placed → List ServiceStep
steps_of [] = []
steps_of (p ∷ ps) = p.entry.steps ++ steps_of ps

-- They are the entries of a run. The service goes with it, event by event and so entry by entry: its steps are a lawful run of the service
-- from the start of the setting, and after each entry the world stands for
-- the state of the service. The steps are just those that the entries show.
pub record IsLawfulRecord (g : Setting) (merged : List Placed) : Type 0 where
  pub run : List Event
  pub recorded : IsRecord g run merged
  pub lawfully : IsServedLawfully g run
  pub steps : steps_of merged ≡ map (λ made. made.0) (joined lawfully.served.parts)
