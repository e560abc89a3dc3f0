-- What holds of the machine of a process, and what may be given to its threads.
use Rattle.std.specs.Prelude.{◌≡◌, ℕ, List, [], ◌∷◌, length, Option, Some, None, Err, slice_get, ⊤}
use Rattle.code_shapes.specs.Shapes.{ModuleTypes, program}
use Rattle.lynx_meaning.specs.Courses.{Outcome}
use Rattle.lynx_meaning.specs.Needs.{Wanted}
use Rattle.typing_rules.specs.declared.exception.Exception.{Exception}
use Rattle.machine_requests.specs.Heard.{AreHeard}
use Rattle.machine_sound.specs.Sound.{AreSound, FitsAction}
use Rattle.machine_turns.specs.Threads.{Standing}
use Rattle.machine_turns.specs.Turns.{Turns, given_to, most_threads}
use Rattle.compiler_runnable.specs.Runnable.{AreParts}
use Rattle.process_run.specs.States.{Module, Open, State}

pub record IsProcessOf (code : Module) (turns : Turns) (opened : List (List Open)) : Type 0 where
  -- that of its machine
  pub sound : AreSound code.types code.parts code.instructions turns
  pub parts : AreParts code.types code.parts
  pub heard : AreHeard (program code.types code.instructions) turns
  -- a list of open requests for each thread
  pub lists : length opened ≡ most_threads

abbrev pub IsProcess : State → Type 0
IsProcess s = IsProcessOf s.code s.turns s.opened

-- ---- what threads ask for

abbrev pub wanted_in : Option (Option Standing) → Option Wanted
wanted_in None = None
wanted_in (Some None) = None
wanted_in (Some (Some s)) = s.wanted

-- what the action of a thread needs that has no outcome yet
abbrev pub asks : ℕ → Turns → Option Wanted
asks n t = wanted_in (slice_get t.threads n)

-- a thread asks for what has this outcome
abbrev pub Fits : ℕ → Outcome → State → Type 0
Fits thread outcome s = FitsAction s.code.types thread outcome s.turns

-- the exception may be raised in these threads, one after the other
abbrev pub MayRaiseIn : List ℕ → Exception → ModuleTypes → Turns → Type 0
MayRaiseIn [] exception m t = ⊤
MayRaiseIn (n ∷ ns) exception m t = FitsAction m n (Err exception) t × MayRaiseIn ns exception m (given_to n (Err exception) t)

abbrev pub MayRaise : List ℕ → Exception → State → Type 0
MayRaise ns exception s = MayRaiseIn ns exception s.code.types s.turns
