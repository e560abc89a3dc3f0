-- The table of the numbers of ends.
use Rattle.std.specs.Prelude.{◌≡◌, ℕ, List, unwrap_or}
use Rattle.std.specs.Map.{lookup}
use Rattle.charlotte_calls.specs.declared.names.EndId.{EndId}
use Rattle.charlotte_calls.specs.EndEq.{end_eq}
use Rattle.process_run.specs.States.{Place}
use Rattle.process_run.specs.Ends.{number_of}

-- the number that a table has for an end, 0 for one that it has not
abbrev pub number_in : EndId → List (EndId × ℕ) → ℕ
number_in x es = unwrap_or (lookup (end_eq x) es) 0

-- it has the number of each end
abbrev pub AreNumbered : List Place → List (EndId × ℕ) → Type 0
AreNumbered ps es = (x : EndId) → number_in x es ≡ number_of x ps

-- each end has the number that it had
pub record KeepNumbers (ps qs : List Place) : Type 0 where
  pub kept : (x : EndId) → number_of x qs ≡ number_of x ps
