-- Settings.
use Rattle.std.specs.Prelude.{◌≡◌, ◌<◌, ◌≤◌, ◌⊎◌, length, All}
use Rattle.charlotte_calls.specs.declared.setting.Setting.{Setting}

-- no number passes its limit
pub record IsWithinLimits (s : Setting) : Type 0 where
  pub version : (s.version ≡ 1) ⊎ (s.version ≡ 2)
  pub some_kernel : 1 ≤ s.kernels
  pub kernels : s.kernels ≤ 8
  pub processes : length s.homes ≤ 64
  pub wires : length s.wires ≤ 4096

-- all numbers are within the limits and name what is there
pub record IsValid (s : Setting) : Type 0 where
  pub limits : IsWithinLimits s
  -- each process is on a kernel that is there
  pub homes : All (λ home. home < s.kernels) s.homes
  -- each wire joins processes that are there
  pub wires : All (λ wire. (wire.0.0 < length s.homes) × (wire.1.0 < length s.homes)) s.wires
