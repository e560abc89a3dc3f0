-- How many actions the runs of a machine stop for.
use Rattle.std.specs.Prelude.{◌≡◌, ℕ, ◌+◌, ◌-◌, ◌≤◌, ◌<◌, List, [], ◌∷◌, ◌++◌, length, Option, Some, None, Ok, slice_get, sum_by, ⊤, ◌⊎◌}
use Rattle.lynx_code.specs.declared.instruction.Instruction.{Instruction}
use Rattle.lynx_meaning.specs.Code.{Program}
use Rattle.lynx_meaning.specs.Courses.{Action, Close, Outcome}
use Rattle.lynx_meaning.specs.Needs.{Wanted, Arguments, Closing}
use Rattle.lynx_meaning.specs.Values.{Value, HaveTypes}
use Rattle.code_shapes.specs.Shapes.{ModuleTypes, PartTypes, IsShaped, opened_by, program}
use Rattle.compiler_runnable.specs.Runnable.{AreParts}
use Rattle.machine_turns.specs.Threads.{Standing}
use Rattle.machine_turns.specs.Turns.{Beat, RunsOn, Stops, Broken, Act, Turns, beats}
use Rattle.machine_never_stuck.specs.Sound.{IsOpen}
use Rattle.machine_requests.specs.Open.{open_in, open_of}
use Rattle.machine_law.specs.Histories.{Move, Beats, Gives, Spawns, IsHistory, behind}

-- ---- moves

-- the fuel that beats left
abbrev pub left_by : Beat → ℕ
left_by (RunsOn left t) = left
left_by (Stops stop left t) = left
left_by Broken = 0

-- one where they stopped for an action
abbrev pub asked_by : Beat → ℕ
asked_by (Stops (Act n a) left t) = 1
asked_by _ = 0

-- how much fuel a move uses
abbrev pub used : Program → Move → Turns → ℕ
used p (Beats k fuel) t = fuel - left_by (beats p k (RunsOn fuel t))
used p _ t = 0

-- one where it is a run that stops for an action
abbrev pub asked : Program → Move → Turns → ℕ
asked p (Beats k fuel) t = asked_by (beats p k (RunsOn fuel t))
asked p _ t = 0

-- what the action of a thread wants that has no outcome yet
abbrev pub wanted_of : Option (Option Standing) → Option Wanted
wanted_of (Some (Some s)) = s.wanted
wanted_of _ = None

-- one where the action that wants this is an accept, and is given values
abbrev pub opened_with : Option Wanted → Outcome → ℕ
opened_with (Some (Arguments op)) (Ok values) = 1
opened_with _ _ = 0

-- how many requests come to be open with a move
abbrev pub opened : Program → Move → Turns → ℕ
opened p (Beats k fuel) t = 0
opened p (Gives n outcome) t = opened_with (wanted_of (slice_get t.threads n)) outcome
opened p (Spawns n part values) t = length (opened_by part.op)

-- ---- open requests

-- how many are open in a thread
abbrev pub open_count : List Instruction → Option Standing → ℕ
open_count instructions o = length (open_in instructions (Some o))

-- one where a close was asked for that has no outcome yet
abbrev pub closing : Option Wanted → ℕ
closing (Some Closing) = 1
closing _ = 0

-- how many are open in a thread and not asked to be closed
abbrev pub unasked_count : List Instruction → Option Standing → ℕ
unasked_count instructions None = 0
unasked_count instructions (Some s) = open_count instructions (Some s) - closing s.wanted

-- and in all threads
abbrev pub open_requests : List Instruction → Turns → ℕ
open_requests instructions t = sum_by (open_count instructions) t.threads

abbrev pub unasked_requests : List Instruction → Turns → ℕ
unasked_requests instructions t = sum_by (unasked_count instructions) t.threads

-- ---- histories

-- the sum of such numbers over these later moves, which come behind the earlier ones; the last move stands first
abbrev pub in_all : (Program → Move → Turns → ℕ) → Program → List Value → List Move → List Move → ℕ
in_all number p globals earlier [] = 0
in_all number p globals earlier (move ∷ later) =
    number p move (behind p globals (later ++ earlier)) + in_all number p globals earlier later

-- what the later moves leave of so much fuel
abbrev pub left_in : Program → List Value → List Move → ℕ → List Move → ℕ
left_in p globals earlier fuel [] = fuel
left_in p globals earlier fuel (Beats k has ∷ later) = left_by (beats p k (RunsOn has (behind p globals (later ++ earlier))))
left_in p globals earlier fuel (Gives n outcome ∷ later) = left_in p globals earlier fuel later
left_in p globals earlier fuel (Spawns n part values ∷ later) = left_in p globals earlier fuel later

-- They hand it on: each run has no more than was left before it.
abbrev pub HandOn : Program → List Value → List Move → ℕ → List Move → Type 0
HandOn p globals earlier fuel [] = ⊤
HandOn p globals earlier fuel (Beats k has ∷ later) = (has ≤ left_in p globals earlier fuel later) × HandOn p globals earlier fuel later
HandOn p globals earlier fuel (Gives n outcome ∷ later) = HandOn p globals earlier fuel later
HandOn p globals earlier fuel (Spawns n part values ∷ later) = HandOn p globals earlier fuel later

-- ---- the laws

-- the thread of this number stands at its instruction's first action: it was given nothing yet
abbrev pub IsAtFirst : ℕ → Turns → Type 0
IsAtFirst n t = (s : Standing) × (slice_get t.threads n ≡ Some (Some s)) × (s.given ≡ [])

-- Where a run stops for an action, this is the first of an instruction, which took its unit of fuel, or a close of an open request.
abbrev pub ActionsBeginOrClose : Type 0
ActionsBeginOrClose =
    (m : ModuleTypes) (parts : List PartTypes) (instructions : List Instruction) (globals : List Value) (moves : List Move)
    (k fuel left n : ℕ) (a : Action) (now : Turns)
    → IsShaped m parts instructions → AreParts m parts → HaveTypes m.globals globals
    → IsHistory m parts instructions globals (Beats k fuel ∷ moves)
    → beats (program m instructions) k (RunsOn fuel (behind (program m instructions) globals moves)) ≡ Stops (Act n a) left now
    → (IsAtFirst n now × (left < fuel)) ⊎ ((a ≡ Close) × IsOpen (open_of instructions n now))

-- how often the runs of the later moves stop for an action
pub record AreBounded (p : Program) (globals : List Value) (earlier later : List Move) : Type 0 where
  -- No more often than they use fuel, requests come to be open, and requests were open at first and not asked to be closed; those that are
  -- so still are left over.
  pub by_use :
      in_all asked p globals earlier later + unasked_requests p.instructions (behind p globals (later ++ earlier))
      ≤ in_all used p globals earlier later + in_all opened p globals earlier later
      + unasked_requests p.instructions (behind p globals earlier)
  -- Where they hand on so much fuel: no more often than this, the requests that were open at first, and those that come to be open.
  pub by_fuel : (fuel : ℕ) → HandOn p globals earlier fuel later
      → in_all asked p globals earlier later
      ≤ fuel + (open_requests p.instructions (behind p globals earlier) + in_all opened p globals earlier later)

-- from any moment of a history on
abbrev pub ActionsAreBounded : Type 0
ActionsAreBounded =
    (m : ModuleTypes) (parts : List PartTypes) (instructions : List Instruction) (globals : List Value) (earlier later : List Move)
    → IsShaped m parts instructions → AreParts m parts → HaveTypes m.globals globals
    → IsHistory m parts instructions globals (later ++ earlier)
    → AreBounded (program m instructions) globals earlier later

-- and from its start, where none is open
abbrev pub AllActionsAreBounded : Type 0
AllActionsAreBounded =
    (m : ModuleTypes) (parts : List PartTypes) (instructions : List Instruction) (globals : List Value) (moves : List Move)
    → IsShaped m parts instructions → AreParts m parts → HaveTypes m.globals globals
    → IsHistory m parts instructions globals moves
    → in_all asked (program m instructions) globals [] moves
    ≤ in_all used (program m instructions) globals [] moves + in_all opened (program m instructions) globals [] moves
