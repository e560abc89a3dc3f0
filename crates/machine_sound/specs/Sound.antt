-- Threads of shaped code that take turns.
use Rattle.std.specs.Prelude.{◌≡◌, ℕ, ◌+◌, List, [], ◌∷◌, length, nat_eq, Bool, true, false}
use Rattle.std.specs.Prelude.{if◌then◌else◌, Option, None, Some, IfOk, slice_get, ⊤, ◌⊎◌, Contains}
use Rattle.lynx_code.specs.declared.instruction.Instruction.{Instruction}
use Rattle.lynx_meaning.specs.Values.{Value, HaveTypes}
use Rattle.code_shapes.specs.Shapes.{ModuleTypes, Shapes, AreShapes, IsThread, PartTypes}
use Rattle.machine_turns.specs.Threads.{Standing, answers, in_turn}
use Rattle.lynx_meaning.specs.Courses.{Outcome}
use Rattle.lynx_meaning.specs.Needs.{Wanted, wanted_types}
use Rattle.machine_turns.specs.Turns.{Turns, is_ready_after, most_threads, Stop, Spent, Act, AllBlocked, Finished}
use Rattle.machine_never_stuck.specs.Sound.{FirstFits, needs}

-- ---- one thread

-- a thread of the shapes, with these variables of the module; what it was given fits its instruction, and what it wants is what that needs
pub record IsSoundThread (m : ModuleTypes) (instructions : List Instruction) (shapes : Shapes) (globals : List Value)
    (s : Standing) : Type 0 where
  pub thread : IsThread m shapes (in_turn globals s)
  pub given : FirstFits (needs m (slice_get instructions s.address)) (answers globals s.given)
  pub wanted : (w : Wanted) → s.wanted ≡ Some w → s.given ≡ [] → wanted_types m.ops w ≡ needs m (slice_get instructions s.address)

-- ---- places

abbrev pub one_if : Bool → ℕ
one_if true = 1
one_if false = 0

-- how often a number stands in a list
abbrev pub times : ℕ → List ℕ → ℕ
times n [] = 0
times n (k ∷ ks) = one_if (nat_eq n k) + times n ks

abbrev pub times_in : ℕ → Option ℕ → ℕ
times_in n None = 0
times_in n (Some k) = one_if (nat_eq n k)

-- how many places a thread has: the turn, among those that are ready, and among those that await
abbrev pub places : ℕ → Turns → ℕ
places n t = times_in n t.running + times n t.ready + times n t.awaiting

-- one that stands and is not blocked has one, and any other has none
abbrev pub places_for : Option (Option Standing) → ℕ
places_for (Some (Some s)) = if is_ready_after s.wanted then 0 else 1
places_for _ = 0

-- ---- all threads

-- the threads of a module whose parts begin at these addresses, with variables of these types
pub record AreSound (m : ModuleTypes) (parts : List PartTypes) (instructions : List Instruction) (t : Turns) : Type 0 where
  pub shapes : Shapes
  pub are : AreShapes m parts instructions shapes
  pub globals : HaveTypes m.globals t.globals
  pub threads : (n : ℕ) (s : Standing) → slice_get t.threads n ≡ Some (Some s) → IsSoundThread m instructions shapes t.globals s
  pub placed : (n : ℕ) → places n t ≡ places_for (slice_get t.threads n)
  pub many : length t.threads ≡ most_threads

-- ---- what a thread is given

-- an action of this thread has no outcome yet, and needs such values
abbrev pub IsAsking : ℕ → Wanted → Turns → Type 0
IsAsking n wanted t = (s : Standing) × (slice_get t.threads n ≡ Some (Some s)) × (s.wanted ≡ Some wanted)

-- each thread that connected or accepted, and has no outcome yet, is as before
abbrev pub StayBlocked : Turns → Turns → Type 0
StayBlocked before now =
    (n : ℕ) (s : Standing) → slice_get before.threads n ≡ Some (Some s) → is_ready_after s.wanted ≡ true
    → slice_get now.threads n ≡ Some (Some s)

-- the outcome is an exception, or has the values that the action of this thread needs
abbrev pub FitsAction : ModuleTypes → ℕ → Outcome → Turns → Type 0
FitsAction m n outcome t = (wanted : Wanted) × IsAsking n wanted t × IfOk outcome (HaveTypes (wanted_types m.ops wanted))

-- all other threads and the variables of the module are as before
pub record StayOthers (n : ℕ) (before now : Turns) : Type 0 where
  pub threads : (k : ℕ) → (k ≡ n → ⊥) → slice_get now.threads k ≡ slice_get before.threads k
  pub globals : now.globals ≡ before.globals

-- ---- stops

-- this thread connects or accepts, and has no outcome yet, or it awaits
abbrev pub IsWaiting : ℕ → Standing → Turns → Type 0
IsWaiting n s t = (is_ready_after s.wanted ≡ true) ⊎ Contains t.awaiting n

-- What holds where a run stops so, with so much fuel left: where it is spent none is left; where all are blocked each thread that stands
-- waits; and where it is finished none stands.
abbrev pub IsStopped : Stop → ℕ → Turns → Type 0
IsStopped Spent left t = left ≡ 0
IsStopped AllBlocked left t = (n : ℕ) (s : Standing) → slice_get t.threads n ≡ Some (Some s) → IsWaiting n s t
IsStopped Finished left t = (n : ℕ) (s : Standing) → slice_get t.threads n ≡ Some (Some s) → ⊥
IsStopped (Act n a) left t = ⊤
