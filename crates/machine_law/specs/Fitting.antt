-- Answers that fit the actions of a thread.
use Rattle.std.specs.Prelude.{List, [], ◌∷◌, IfOk, ⊤}
use Rattle.lynx_meaning.specs.Courses.{Action, Answer}
use Rattle.lynx_meaning.specs.Needs.{wanted_by, wanted_types}
use Rattle.lynx_meaning.specs.Values.{HaveTypes}
use Rattle.code_shapes.specs.Shapes.{ModuleTypes}

-- an answer is an exception, or has the values that the action needs, and the variables of the module have their types
pub record FitsTo (m : ModuleTypes) (action : Action) (answer : Answer) : Type 0 where
  pub given : IfOk answer.given (HaveTypes (wanted_types m.ops (wanted_by action)))
  pub globals : HaveTypes m.globals answer.globals

-- answers to the first of these actions, in their order
abbrev pub FitAll : ModuleTypes → List Action → List Answer → Type 0
FitAll m actions [] = ⊤
FitAll m [] (a ∷ answers) = ⊥
FitAll m (action ∷ actions) (a ∷ answers) = FitsTo m action a × FitAll m actions answers
