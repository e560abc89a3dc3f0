-- What the code of a statement does.
use Rattle.std.specs.Prelude.{◌≡◌, ℕ, ◌≤◌, List, [], ◌∷◌, ◌++◌, length, map, Option, Some, slice_get, ⊤}
use Rattle.lynx_tree.specs.Trees.{ModuleTree, OpTree}
use Rattle.lynx_tree.specs.declared.declaration.TypeName.{TypeName}
use Rattle.typing_rules.specs.Names.{arguments_of, results_of}
use Rattle.typing_rules.specs.declared.exception.Exception.{Exception}
use Rattle.lynx_code.specs.Modules.{variables}
use Rattle.lynx_meaning.specs.Agree.{actions_of}
use Rattle.lynx_meaning.specs.Code.{Comes, Goes, Opened, Over, Thread, exec}
use Rattle.lynx_meaning.specs.Courses.{Action, Answer, Course, Moment, Stop, Ended, Waits, Out}
use Rattle.lynx_meaning.specs.Courses as course
use Rattle.compiler_steps.specs.Steps.{Reaches, thread, thrown}
use Rattle.compiler_expressions.specs.Setting.{HasKinds, Setting}

-- ---- actions and answers

-- an action that gets an answer
abbrev pub IsAnswered : Action → Type 0
IsAnswered Stop = ⊥
IsAnswered _ = ⊤

-- of all answers the first are those to these actions, and these are left
abbrev pub AreUsed : List Action → List Answer → List Answer → Type 0
AreUsed [] all left = all ≡ left
AreUsed (action ∷ actions) [] left = ⊥
AreUsed (action ∷ actions) (a ∷ all) left = IsAnswered action × AreUsed actions all left

-- the actions of a course
abbrev pub trace : Course → List Action
trace (course.Proceeds m) = m.actions
trace (course.Raises exception m) = m.actions
trace (course.Over outcome) = actions_of outcome

-- the second list begins with the first
abbrev pub IsFront : List Action → List Action → Type 0
IsFront xs ys = (rest : List Action) × (xs ++ rest ≡ ys)

-- ---- threads

-- a part of a module, and the answers that a thread of it is given
pub record Body : Type 0 where
  pub setting : Setting
  pub tree : ModuleTree
  pub answers : List Answer
  -- operations are numbered as they are declared
  pub operation : (name : List ℕ) (arguments : List TypeName) → arguments_of (setting.scope name) ≡ Some arguments
      → (op : OpTree) × (slice_get tree.ops (setting.names.op name) ≡ Some op) × (op.arguments ≡ arguments)
      × (results_of (setting.scope name) ≡ Some op.results)
  pub counts : setting.program.arguments ≡ map (λ (op : OpTree). length op.arguments) tree.ops
  pub kinds : setting.globals ≡ map (λ v. v.kind) (variables tree)

-- the variables of a moment are of their kinds, and its answers are those that are left
pub record IsSound (b : Body) (m : Moment) : Type 0 where
  pub kinds : HasKinds b.setting m.store
  pub used : AreUsed m.actions b.answers m.answers

-- From this thread the code comes to what the course says: to this address; to what an exception does there; to an outcome; or beyond so
-- many instructions, where a loop of the source would make a turn more than it may.
abbrev pub Runs : Body → List Opened → List ℕ → ℕ → Thread → ℕ → Course → Type 0
Runs b tries requests n t end (course.Proceeds m) =
    IsSound b m × (pending : Option Exception) × Reaches b.setting.program t (Goes (thread end [] tries requests pending m))
Runs b tries requests n t end (course.Raises exception m) = IsSound b m × Reaches b.setting.program t (thrown tries requests exception m)
Runs b tries requests n t end (course.Over (Ended actions store)) = ⊥
Runs b tries requests n t end (course.Over (Waits actions store)) = Reaches b.setting.program t (Over (Comes (Waits actions store)))
Runs b tries requests n t end (course.Over (Out actions)) = (j : ℕ) × (n ≤ j) × (exec b.setting.program j t ≡ Comes (Out actions))
