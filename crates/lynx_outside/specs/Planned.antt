-- Calls that are to fail, for tests of what stands above.
use Rattle.std.specs.Prelude.{ℕ, Bool, List, ◌==◌}
use Rattle.std.specs.List.{list_any}
use Rattle.lynx_outside.specs.Faults.{next_count}

-- how many calls came, the numbers from 1 of those that are to fail, and how many failed
pub record Plan : Type 0 where
  pub calls : ℕ
  pub failing : List ℕ
  pub faults : ℕ

-- whether the next call is one of those that are to fail
abbrev pub is_due : Plan → Bool
is_due plan = list_any (λ number. number == next_count plan.calls) plan.failing

-- after a call that did not fail
abbrev pub passed : Plan → Plan
passed plan = record plan { calls = next_count plan.calls }

-- after a call that failed
abbrev pub failed : Plan → Plan
failed plan = record plan { calls = next_count plan.calls; faults = next_count plan.faults }
