-- Threads of a machine do what their code means.
use Rattle.std.specs.Prelude.{◌≡◌, ℕ, List, [], Option, Some, None, slice_get, unwrap_or, ⊤}
use Rattle.lynx_code.specs.declared.instruction.Instruction.{Instruction}
use Rattle.lynx_meaning.specs.Agree.{actions_of}
use Rattle.lynx_meaning.specs.Courses.{Behaviour, Ended, Waits, Out}
use Rattle.lynx_meaning.specs.Values.{Value, HaveTypes}
use Rattle.code_shapes.specs.Shapes.{ModuleTypes, PartTypes, IsShaped, program}
use Rattle.compiler_runnable.specs.Runnable.{AreParts, parameters}
use Rattle.machine_turns.specs.Threads.{Standing}
use Rattle.machine_turns.specs.Turns.{Turns}
use Rattle.machine_law.specs.Fitting.{FitAll}
use Rattle.machine_law.specs.Lives.{Life}
use Rattle.machine_law.specs.Histories.{DidByCode, IsHistory, Move, behind, life_of}

-- Where a thread is that did this: it stands before an instruction that has not begun; it asked for an action or awaits, and has not gone
-- on; or it ended.
abbrev pub IsWhere : Option (Option Standing) → Behaviour → Type 0
IsWhere (Some (Some s)) (Out actions) = (s.given ≡ []) × (s.wanted ≡ None)
IsWhere (Some (Some s)) (Waits actions store) = (s.given ≡ []) × (s.wanted ≡ None) → ⊥
IsWhere (Some (Some s)) (Ended actions store) = ⊥
IsWhere _ (Ended actions store) = ⊤
IsWhere _ _ = ⊥

-- the thread under this number, with this life, did what its code means
pub record MeansItsCode (m : ModuleTypes) (parts : List PartTypes) (instructions : List Instruction) (n : ℕ) (t : Turns)
    (life : Life) : Type 0 where
  pub place : IsWhere (slice_get t.threads n) life.did
  pub part : (i : ℕ) × (slice_get parts i ≡ Some life.part)
  -- what it was given fits
  pub globals : HaveTypes m.globals (unwrap_or life.first t.globals)
  pub arguments : HaveTypes (parameters m life.part) life.arguments
  pub answers : FitAll m (actions_of life.did) life.answers
  -- and with that its code does what it did
  pub code : DidByCode (program m instructions) t.globals life

-- Each thread of each history, standing or ended: a thread whose number another one has got stands or ended in an earlier history.
abbrev pub ThreadsMeanTheirCode : Type 0
ThreadsMeanTheirCode =
    (m : ModuleTypes) (parts : List PartTypes) (instructions : List Instruction) (globals : List Value) (moves : List Move)
    (n : ℕ) (life : Life)
    → IsShaped m parts instructions → AreParts m parts → HaveTypes m.globals globals → IsHistory m parts instructions globals moves
    → life_of (program m instructions) globals n moves ≡ Some life
    → MeansItsCode m parts instructions n (behind (program m instructions) globals moves) life
