-- What has to hold where a thread asked for an action.
use Rattle.std.specs.Prelude.{◌≡◌, ℕ, List, [], ◌∷◌, Some}
use Rattle.lynx_meaning.specs.Courses.{Action, Accept, Connect}
use Rattle.lynx_meaning.specs.Needs.{wanted_by}
use Rattle.machine_never_stuck.specs.Sound.{IsAction}
use Rattle.process_run.specs.States.{State}
use Rattle.process_sound.specs.Machine.{asks}
use Rattle.process_sound.specs.Processes.{IsGoing}

-- a thread that connects or accepts waits at no end yet
abbrev pub owed_for : ℕ → Action → List ℕ
owed_for n (Connect link op vs) = n ∷ []
owed_for n (Accept link op) = n ∷ []
owed_for n _ = []

-- The thread asks for this action of its module, which is no `new`.
pub record IsActing (n : ℕ) (a : Action) (s : State) : Type 0 where
  pub going : IsGoing (owed_for n a) s
  pub asking : asks n s.turns ≡ Some (wanted_by a)
  pub requests : List ℕ
  pub of_module : IsAction s.code.types requests a
