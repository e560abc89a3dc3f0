-- The ends of a process, by their numbers.
use Rattle.std.specs.Prelude.{ℕ, Bool, false, cond, List, Option, None, Some, option_map}
use Rattle.charlotte_calls.specs.declared.names.EndId.{EndId}
use Rattle.end_protocol.specs.declared.going.Due.{Due}
use Rattle.end_protocol.specs.declared.kept.Kept.{Kept}
use Rattle.process_run.specs.States.{Holding, Keeps, Gone, Place, Held}
use Rattle.process_run.specs.Ends.{place_at, held_of}
use Rattle.process_run.specs.Runs.{Asking, due_so, is_in_use}

-- the places, and whether there was room for a thread as the ends were last looked at
pub record Ends : Type 0 where
  pub places : List Place
  pub room : Bool

abbrev pub with_places : List Place → Ends → Ends
with_places ps e = record e { places = ps }

-- ---- by number

abbrev pub end_at : ℕ → List Place → Option EndId
end_at n ps = option_map (λ p. p.end) (place_at n ps)

abbrev pub kept_by : Holding → Option Kept
kept_by (Keeps k) = Some k
kept_by (Gone own) = None

abbrev pub kept_in : Option Place → Option Kept
kept_in None = None
kept_in (Some p) = kept_by p.holding

-- what is kept for the end of a number, where it is held
abbrev pub kept_at : ℕ → List Place → Option Kept
kept_at n ps = kept_in (place_at n ps)

abbrev pub owns_by : Holding → Bool
owns_by (Keeps k) = false
owns_by (Gone own) = own

-- whether the ends that a report of a send returns were the process's own, of an end that it does not hold
abbrev pub owns_in : Option Place → Bool
owns_in None = false
owns_in (Some p) = owns_by p.holding

abbrev pub owns_at : ℕ → List Place → Bool
owns_at n ps = owns_in (place_at n ps)

-- 1 for an end in use, 0 for another
abbrev pub used_by : Holding → ℕ
used_by h = cond (is_in_use h) 1 0

-- ---- due calls

abbrev pub asking_on : ℕ → ℕ → Due → Option Held → Option Asking
asking_on version n d None = None
asking_on version n d (Some h) = due_so version n h.end h.kept d

abbrev pub asking_of : ℕ → List Place → Option (ℕ × Due) → Option Asking
asking_of version ps None = None
asking_of version ps (Some x) = asking_on version x.0 x.1 (held_of x.0 (place_at x.0 ps))
