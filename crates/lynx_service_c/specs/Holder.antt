-- Who holds an end, by the numbers and names that C is told.
use Rattle.std.specs.Prelude.{◌≡◌, ◌⊎◌, ℕ, ℤ, pos, false, List, [], ◌∷◌, ◌++◌, length, drop, replicate, Result, Ok, Err}
use Rattle.charlotte_calls.specs.declared.names.EndId.{EndId}
use Rattle.charlotte_calls.specs.declared.names.Side.{Side}
use Rattle.charlotte_calls.specs.declared.names.Side.TheVariants as side
use Rattle.charlotte_text.specs.declared.fault.Fault.{Fault}
use Rattle.history_checker.specs.declared.checker.Checker.{Checker}
use Rattle.history_run.specs.Follow.{state_now}
use Rattle.history_text.specs.Ends.{told_end}
use Rattle.history_text.specs.Given.{Given}
use Rattle.history_text.specs.Names.{name_at}
use Rattle.lynx_service_c.specs.declared.holder.Holder.{Holder}
use Rattle.service_step.specs.State.{State}
use Rattle.service_step.specs.declared.state.Place.{Place}
use Rattle.service_step.specs.declared.state.Place.TheVariants as place

-- a name, and zeros behind it
abbrev pub filled : List ℕ → List ℕ
filled name = name ++ drop (length name) (replicate 40 0)

-- the answer is this place, and a number and a name are put
pub record IsNamed (place : ℤ) (number : ℕ) (name : List ℕ) (h : Holder) (answer : ℤ) : Type 0 where
  pub place_is : answer ≡ place
  pub number_is : h.number ≡ number
  pub length_is : h.length ≡ length name
  pub name_is : h.name ≡ filled name

-- a pointer is null
abbrev pub IsNobody : Holder → ℤ → Type 0
IsNobody h r = IsNamed (pos 1) 0 [] h r

-- what stands behind the name of a link in that of its end
abbrev pub ending : Side → List ℕ
ending side.A = 46 ∷ 97 ∷ []
ending side.B = 46 ∷ 98 ∷ []

-- an end is there: owned by the process of this name, in message n of an end of this side, destroyed, or of no made link
abbrev pub IsAt : Given → Place → Holder → ℤ → Type 0
IsAt g (place.Owned p) h r = IsNamed (pos 10) 0 (name_at g.processes p.0) h r
IsAt g (place.InMessage on n) h r = (link : List ℕ) × IsNamed (pos 11) n (link ++ ending on.side) h r
IsAt g place.Destroyed h r = IsNamed (pos 12) 0 [] h r
IsAt g place.Unmade h r = IsNamed (pos 13) 0 [] h r

-- the state of the service after the lines so far
abbrev pub state_after : Checker → State
state_after c = state_now c.history.begun c.history.service c.history.draft

-- there is no memory for the start of the service, which no step has started
pub record IsUnanswered (c : Checker) (h : Holder) (r : ℤ) : Type 0 where
  pub begun : c.history.begun ≡ false
  pub told : IsNamed (pos 7) 0 [] h r

-- who holds the end that a word names, if any
abbrev pub IsFound : Checker → Result EndId Fault → Holder → ℤ → Type 0
IsFound c (Ok e) h r = IsAt c.history.draft ((state_after c).ends e).place h r ⊎ IsUnanswered c h r
IsFound c (Err why) h r = IsNamed (pos 13) 0 [] h r

-- who holds the end of a name
abbrev pub IsHolder : Checker → List ℕ → Holder → ℤ → Type 0
IsHolder c name h r = IsFound c (told_end c.history.draft name) h r
