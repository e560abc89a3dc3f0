-- The history of a machine, and what its threads did in it.
use Rattle.std.specs.Prelude.{◌≡◌, ℕ, suc, List, [], ◌∷◌, nat_eq, true, if◌then◌else◌, Option, Some, None, slice_get, unwrap_or, ⊤}
use Rattle.lynx_code.specs.declared.instruction.Instruction.{Instruction}
use Rattle.lynx_code.specs.declared.instruction.Instruction.TheVariants as code
use Rattle.lynx_meaning.specs.Code.{Comes, Program, code_meaning}
use Rattle.lynx_meaning.specs.Courses.{Outcome}
use Rattle.lynx_meaning.specs.Needs.{Wanted}
use Rattle.lynx_meaning.specs.Values.{Value, HaveTypes}
use Rattle.code_shapes.specs.Shapes.{ModuleTypes, PartTypes, opened_by, program}
use Rattle.machine_turns.specs.Threads.{Standing}
use Rattle.machine_turns.specs.Turns.{Beat, RunsOn, Stops, Broken, IsFree, Turns, at_start, beats, given_to, is_ready_after, spawned}
use Rattle.compiler_runnable.specs.Runnable.{parameters, start_locals}
use Rattle.machine_sound.specs.Sound.{FitsAction}
use Rattle.machine_law.specs.Lives.{Life, behind_beats, born}

-- what a process does to a machine
pub data Move : Type 0 where
  -- so many beats of a run with this fuel
  Beats : ℕ → ℕ → Move
  -- the action of this thread has this outcome
  Gives : ℕ → Outcome → Move
  -- a thread of this part begins under this number, and its parameters have these values
  Spawns : ℕ → PartTypes → List Value → Move

abbrev pub turns_of : Beat → Turns → Turns
turns_of (RunsOn left t) before = t
turns_of (Stops stop left t) before = t
turns_of Broken before = before

abbrev pub moved : Program → Move → Turns → Turns
moved p (Beats k fuel) t = turns_of (beats p k (RunsOn fuel t)) t
moved p (Gives n outcome) t = given_to n outcome t
moved p (Spawns n part values) t = spawned n (opened_by part.op) part.start (start_locals part.locals values) t

-- the life of the thread of this number
abbrev pub behind_move : Program → ℕ → Move → Turns → Option Life → Option Life
behind_move p n (Beats k fuel) t life = behind_beats p n k (RunsOn fuel t) life
behind_move p n (Gives k outcome) t life = life
behind_move p n (Spawns k part values) t life = if nat_eq n k then Some (born part values) else life

-- ---- the conditions of moves

-- each action other than a connect or an accept was given its outcome
abbrev pub AllGiven : Turns → Type 0
AllGiven t =
    (n : ℕ) (s : Standing) (w : Wanted) → slice_get t.threads n ≡ Some (Some s) → s.wanted ≡ Some w → is_ready_after (Some w) ≡ true

-- it is given no outcome
abbrev pub IsStop : List Instruction → Standing → Type 0
IsStop instructions s = slice_get instructions s.address ≡ Some code.Stop

abbrev pub MayMove : ModuleTypes → List PartTypes → List Instruction → Move → Turns → Type 0
MayMove m parts instructions (Beats k fuel) t = AllGiven t
MayMove m parts instructions (Gives n outcome) t =
    FitsAction m n outcome t × ((s : Standing) → slice_get t.threads n ≡ Some (Some s) → IsStop instructions s → ⊥)
MayMove m parts instructions (Spawns n part values) t =
    IsFree n t × ((i : ℕ) × (slice_get parts (suc i) ≡ Some part)) × HaveTypes (parameters m part) values

-- ---- histories

-- the part of the body
abbrev pub body_part : PartTypes
body_part = record { start = 0; op = None; locals = [] }

-- the turns behind these moves, the last one first, from a start with these variables of the module
abbrev pub behind : Program → List Value → List Move → Turns
behind p globals [] = at_start globals
behind p globals (move ∷ earlier) = moved p move (behind p globals earlier)

-- each was made under its condition
abbrev pub IsHistory : ModuleTypes → List PartTypes → List Instruction → List Value → List Move → Type 0
IsHistory m parts instructions globals [] = ⊤
IsHistory m parts instructions globals (move ∷ earlier) =
    MayMove m parts instructions move (behind (program m instructions) globals earlier) × IsHistory m parts instructions globals earlier

-- the life of the thread that stands under this number, or that stood there last
abbrev pub life_of : Program → List Value → ℕ → List Move → Option Life
life_of p globals n [] = if nat_eq n 0 then Some (born body_part []) else None
life_of p globals n (move ∷ earlier) = behind_move p n move (behind p globals earlier) (life_of p globals n earlier)

-- With as many instructions as it has begun, the code of its part comes to what it did. The variables of the module are those at its first
-- instruction, or these where it has made none.
abbrev pub DidByCode : Program → List Value → Life → Type 0
DidByCode p now life =
    code_meaning p (opened_by life.part.op) life.part.start life.made
    (record { globals = unwrap_or life.first now; locals = start_locals life.part.locals life.arguments })
    life.answers
    ≡ Comes life.did
