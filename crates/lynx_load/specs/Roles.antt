-- The programs of processes: each by the program inside.
use Rattle.std.specs.Prelude.{◌≡◌, ℕ, List, Option, None}
use Rattle.charlotte_calls.specs.declared.names.EndId.{EndId}
use Rattle.charlotte_calls.specs.declared.program.Next.{Next}
use Rattle.lynx_code.specs.declared.code.Code.{Code}
use Rattle.lynx_load.specs.declared.role.Role.{Role}
use Rattle.lynx_load.specs.declared.role.Role.TheVariants.{Plain}
use Rattle.process_run.specs.States.{State, start}

abbrev pub state_of : Role → State
state_of (Plain p) = p.process

-- the last step; none at the start
abbrev pub last_of : Role → Option Next
last_of (Plain p) = p.last

abbrev pub version_of : Role → ℕ
version_of (Plain p) = p.process.version

-- it runs this code with these ends, and made no step
pub record IsAtStart (version : ℕ) (made : Code) (ends : List EndId) (role : Role) : Type 0 where
  pub state : state_of role ≡ start version made ends
  pub last : last_of role ≡ None
