-- How far a walk over the tokens of a module has come, and the first fault on the way.
use Rattle.std.specs.Prelude.{ℕ, List, [], ◌∷◌, Bool, true, false, Option, None, Some, if◌then◌else◌}
use Rattle.typing_rules.specs.Rules.{Fault}
use Rattle.typing_rules.specs.Modules.{is_no_later}

-- the number of the next token, and the first fault so far
pub record Progress : Type 0 where
  pub at : ℕ
  pub first : Option Fault

-- the first of the faults so far and one more
abbrev pub earlier : Option Fault → Fault → Option Fault
earlier None fault = Some fault
earlier (Some first) fault = Some (if is_no_later first fault then first else fault)

-- the first of the faults so far and of some more
abbrev pub first_with : Option Fault → List Fault → Option Fault
first_with first [] = first
first_with first (fault ∷ faults) = first_with (earlier first fault) faults

-- no rule fails
abbrev pub is_clean : List Fault → Bool
is_clean [] = true
is_clean (fault ∷ faults) = false
