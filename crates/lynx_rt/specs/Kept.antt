-- What holds of each process that no want of memory spoiled.
use Rattle.std.specs.Prelude.{◌≡◌, ◌⊎◌, ℕ, List, length}
use Rattle.code_shapes.specs.Shapes.{program}
use Rattle.machine_requests.specs.Heard.{AreHeard}
use Rattle.machine_sound.specs.Sound.{AreSound}
use Rattle.machine_turns.specs.Turns.{Turns, most_threads}
use Rattle.compiler_runnable.specs.Runnable.{AreParts}
use Rattle.process_run.specs.States.{Module, Open, State}

pub record IsProcessOf (version : ℕ) (code : Module) (turns : Turns) (opened : List (List Open)) : Type 0 where
  pub version_is : (version ≡ 1) ⊎ (version ≡ 2)
  -- that of its machine
  pub sound : AreSound code.types code.parts code.instructions turns
  pub parts : AreParts code.types code.parts
  pub heard : AreHeard (program code.types code.instructions) turns
  -- each operation has a signature
  pub ops : length code.signatures ≡ length code.types.ops
  -- a list of open requests for each thread
  pub lists : length opened ≡ most_threads

abbrev pub IsProcess : State → Type 0
IsProcess s = IsProcessOf s.version s.code s.turns s.opened
