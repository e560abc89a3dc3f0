-- What holds of a process.
use Rattle.std.specs.Prelude.{◌≡◌, ◌⊎◌, ℕ, List, [], Some, ⊤}
use Rattle.lynx_meaning.specs.Needs.{NoValue, TwoLinks}
use Rattle.machine_turns.specs.Turns.{Turns}
use Rattle.process_run.specs.States.{Asked, State}
use Rattle.process_run.specs.States as process
use Rattle.process_sound.specs.Ends.{AreEnds}
use Rattle.process_sound.specs.Machine.{IsProcess, asks}
use Rattle.process_sound.specs.Modules.{IsModule}

-- Within a step, while these threads are still to have their outcome.
pub record IsGoing (owed : List ℕ) (s : State) : Type 0 where
  pub version : (s.version ≡ 1) ⊎ (s.version ≡ 2)
  pub code : IsModule s.code
  pub process : IsProcess s
  pub ends : AreEnds s.version s.code s.turns owed s.places

-- the thread for which it asked a call asks for what comes of that
abbrev pub IsFor : Asked → Turns → Type 0
IsFor (process.Make thread) t = asks thread t ≡ Some TwoLinks
IsFor (process.Print thread) t = asks thread t ≡ Some NoValue
IsFor _ t = ⊤

-- Between two steps.
pub record IsRunning (s : State) : Type 0 where
  pub going : IsGoing [] s
  pub asked : IsFor s.asked s.turns
