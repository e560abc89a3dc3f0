-- A machine: the code that it runs, and its threads.
use Rattle.std.specs.Prelude.{◌≡◌, ℕ, ◌+◌, ◌<◌, ◌≤◌, List, [], ◌∷◌, ◌++◌, length, map, drop, Option, Some, None, slice_get}
use Rattle.lynx_code.specs.declared.code.Code.{Code}
use Rattle.lynx_code.specs.declared.instruction.Instruction.{Instruction}
use Rattle.lynx_meaning.specs.Values.{Value, Link, start_value, HaveTypes}
use Rattle.lynx_tree.specs.declared.declaration.TypeName.{TypeName}
use Rattle.lynx_meaning.specs.Courses.{Outcome}
use Rattle.lynx_meaning.specs.Needs.{Wanted}
use Rattle.code_shapes.specs.Shapes.{ModuleTypes, code_types, PartTypes, code_parts, opened_by, program}
use Rattle.machine_turns.specs.Threads.{Standing}
use Rattle.machine_turns.specs.Turns.{Turns, IsFree, spawned}
use Rattle.machine_values.specs.declared.value.LinkRef.{LinkRef}
use Rattle.compiler_runnable.specs.Runnable.{AreParts, HaveStarts, parameters, start_locals}
use Rattle.machine_sound.specs.Sound.{AreSound, IsAsking}
use Rattle.machine_requests.specs.Heard.{AreHeard}
use Rattle.machine_requests.specs.Open.{open_of, opens}

-- ---- what a machine is

pub record State : Type 0 where
  pub code : Code
  -- what its threads go by
  pub instructions : List Instruction
  pub types : ModuleTypes
  -- the body, and then the entries
  pub parts : List PartTypes
  pub turns : Turns

-- the machine of this code, with these turns
abbrev pub state_of : Code → Turns → State
state_of code turns =
    record {
      code = code;
      instructions = code.instructions.items;
      types = code_types code;
      parts = code_parts code;
      turns = turns;
    }

-- how many threads stand
abbrev pub how_many : List (Option Standing) → ℕ
how_many [] = 0
how_many (Some s ∷ os) = how_many os + 1
how_many (None ∷ os) = how_many os

-- ---- what holds of each machine

pub record IsMachine (s : State) : Type 0 where
  pub sound : AreSound s.types s.parts s.instructions s.turns
  pub parts : AreParts s.types s.parts
  -- what a thread was given its instruction hears
  pub heard : AreHeard (program s.types s.instructions) s.turns

-- ---- the start

-- the variables of the module at the start: the params hold these links
abbrev pub start_globals : List TypeName → List LinkRef → List Value
start_globals kinds links = map (λ l. Link l.0) links ++ map start_value (drop (length links) kinds)

-- each lower number has a thread that stands
abbrev pub StandBelow : ℕ → Turns → Type 0
StandBelow n t = (k : ℕ) → k < n → (s : Standing) × (slice_get t.threads k ≡ Some (Some s))

-- there is this entry, and these values are for its parameters
abbrev pub IsEntryFor : ℕ → List Value → State → Type 0
IsEntryFor entry values s = (p : PartTypes) × (slice_get s.parts (entry + 1) ≡ Some p) × HaveTypes (parameters s.types p) values

-- there is this entry, with a variable for each of these values
abbrev pub HasEntry : ℕ → List Value → State → Type 0
HasEntry entry values s =
    (p : PartTypes) × (slice_get s.parts (entry + 1) ≡ Some p) × (length values ≤ length p.locals) × HaveStarts p.locals

-- a thread of the entry begins under a free number, with one open request, of the operation that the entry serves
abbrev pub IsSpawned : ℕ → ℕ → List Value → State → State → Type 0
IsSpawned n entry values before after =
    IsFree n before.turns
    × ((p : PartTypes) → slice_get before.parts (entry + 1) ≡ Some p
    → after ≡ record before { turns = spawned n (opened_by p.op) p.start (start_locals p.locals values) before.turns })

-- ---- open requests

-- those of all threads but one are as before
abbrev pub KeepOthers : ℕ → State → State → Type 0
KeepOthers n before now = (k : ℕ) → (k ≡ n → ⊥) → open_of before.instructions k now.turns ≡ open_of before.instructions k before.turns

-- an outcome changes those of its thread as what was asked for says: values for an accept open one, and any outcome of a close ends the
-- innermost one
pub record GivesRequests (n : ℕ) (outcome : Outcome) (before now : State) : Type 0 where
  pub there : (wanted : Wanted) → IsAsking n wanted before.turns
      → open_of before.instructions n now.turns ≡ opens wanted outcome (open_of before.instructions n before.turns)
  pub others : KeepOthers n before now

-- a new thread has just the request open that it serves
pub record SpawnsRequests (n entry : ℕ) (before now : State) : Type 0 where
  pub there : (p : PartTypes) → slice_get before.parts (entry + 1) ≡ Some p → open_of before.instructions n now.turns ≡ opened_by p.op
  pub others : KeepOthers n before now
