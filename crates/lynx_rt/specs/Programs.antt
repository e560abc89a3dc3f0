-- A LYNX process as a program of a kernel: its state, and its last step.
use Rattle.std.specs.Prelude.{◌≡◌, ◌⊎◌, Option, Some}
use Rattle.charlotte_calls.specs.declared.calls.Call.TheVariants as call
use Rattle.charlotte_calls.specs.declared.program.Next.{Next}
use Rattle.charlotte_calls.specs.declared.program.Next.TheVariants as next
use Rattle.process_run.specs.States.{Exit, State}
use Rattle.process_sound.specs.Processes.{IsRunning}

pub record Program : Type 0 where
  pub process : State
  -- none at the start
  pub last : Option Next

-- Between two steps: after an Exit its state says so.
pub record IsProgram (p : Program) : Type 0 where
  pub running : IsRunning p.process
  pub exit : p.last ≡ Some (next.Ask call.Exit) → p.process.asked ≡ Exit

-- A step that was not made for want of memory ended it, and nothing is known of it any more.
abbrev pub MayBeSpoiled : Program → Type 0
MayBeSpoiled p = (p.last ≡ Some next.Ended) ⊎ IsProgram p
