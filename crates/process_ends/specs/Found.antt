-- What is found on the ends that are looked at.
use Rattle.std.specs.Prelude.{◌≡◌, ℕ, Bool, false, List, Option, None, Some, is_some}
use Rattle.end_protocol.specs.declared.going.Due.{Due}
use Rattle.end_protocol.specs.declared.kept.Kept.{Kept}
use Rattle.process_run.specs.States.{Place}
use Rattle.process_run.specs.Runs.{due_among}
use Rattle.process_ends.specs.Ends.{asking_of}

-- the first call that is due, by the number of its end, or none: in each version it is the one that a process asks
abbrev pub IsFirst : Bool → List Place → Option (ℕ × Due) → Type 0
IsFirst room ps found = (version : ℕ) → due_among version room 1 ps ≡ asking_of version ps found

-- a request was forbidden, and not yet allowed
abbrev pub forbids : Option Kept → Bool
forbids None = false
forbids (Some k) = is_some k.forbade
