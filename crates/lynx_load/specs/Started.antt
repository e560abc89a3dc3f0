-- What code has of a loading: the programs at their start.
use Rattle.std.specs.Prelude.{◌≡◌, ⊤, ℕ, List, [], ◌∷◌, ◌++◌, length, All, None, Result, Ok, Err}
use Rattle.charlotte_calls.specs.Setting.{IsValid}
use Rattle.charlotte_calls.specs.declared.names.EndId.{EndId}
use Rattle.lynx_code.specs.declared.code.Code.{Code as ACode}
use Rattle.lynx_load.specs.Ends.{ends_of_each}
use Rattle.lynx_load.specs.Loading.{Loading, Unloaded}
use Rattle.lynx_load.specs.Roles.{IsAtStart, last_of, version_of}
use Rattle.lynx_load.specs.Told.{IsToldAs}
use Rattle.lynx_load.specs.declared.fault.LoadFault.{LoadFault}
use Rattle.lynx_load.specs.declared.loaded.Loaded.{Loaded}
use Rattle.lynx_load.specs.declared.role.Role.{Role}

-- each process has as many ends as its module has params
abbrev pub AreFit : List ACode → List (List EndId) → Type 0
AreFit [] [] = ⊤
AreFit (code ∷ codes) (ends ∷ others) = (length ends ≡ code.params) × AreFit codes others
AreFit codes ends = ⊥

-- each process has its program, before the first step of its module with its ends
abbrev pub AreStarted : ℕ → List ACode → List (List EndId) → List Role → Type 0
AreStarted version [] [] [] = ⊤
AreStarted version (code ∷ codes) (ends ∷ others) (role ∷ roles) = IsAtStart version code ends role × AreStarted version codes others roles
AreStarted version codes ends roles = ⊥

-- the program of the first code and the first ends stands behind those that were there
abbrev pub StartsOne : ℕ → List ACode → List (List EndId) → List ACode → List (List EndId) → List Role → List Role → Type 0
StartsOne version codes each later rest old new =
    (code : ACode) × (ends : List EndId) × (role : Role) × (codes ≡ code ∷ later) × (each ≡ ends ∷ rest) × IsAtStart version code ends role × (new ≡ old ++ role ∷ [])

-- the programs of all stand behind those that were there
abbrev pub StartsOnto : ℕ → List ACode → List (List EndId) → List Role → List Role → Type 0
StartsOnto version codes each old new = (roles : List Role) × (new ≡ old ++ roles) × AreStarted version codes each roles

-- ---- what is loaded

-- the setting of the plan, with the programs of its processes
pub record IsLoaded (x : Loading) (loaded : Loaded) : Type 0 where
  pub setting : loaded.setting ≡ x.plan.setting
  pub programs : AreStarted x.plan.setting.version x.codes (ends_of_each x.plan.setting) loaded.programs.items

abbrev pub IsLoadedAs : Result Loaded LoadFault → Result Loading Unloaded → Type 0
IsLoadedAs (Ok loaded) (Ok x) = IsLoaded x loaded
IsLoadedAs (Err fault) (Err x) = IsToldAs fault x
IsLoadedAs result found = ⊥

-- nodes can start with it: the setting is valid, and each process has a program of its version that made no step
pub record IsReady (loaded : Loaded) : Type 0 where
  pub valid : IsValid loaded.setting
  pub programs : length loaded.programs.items ≡ length loaded.setting.homes
  pub fresh : All (λ role. (last_of role ≡ None) × (version_of role ≡ loaded.setting.version)) loaded.programs.items
