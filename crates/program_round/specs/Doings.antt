-- What the programs of a node are doing, and which makes the next step.
use Rattle.std.specs.Prelude.{◌≡◌, ℕ, ◌+◌, ◌<◌, ◌≤◌, Bool, true, false, nat_eq, nat_lt, if◌then◌else◌, List, [], ◌∷◌, slice_index_or}
use Rattle.charlotte_calls.specs.declared.names.Pid.{Pid}
use Rattle.charlotte_calls.specs.declared.program.Next.{Next}
use Rattle.charlotte_calls.specs.declared.program.Next.TheVariants as next
use Rattle.program_round.specs.declared.doing.Doing.{Doing}
use Rattle.program_round.specs.declared.doing.Doing.TheVariants.{Begins, Answered, Pending, Paused, Ended}

-- it can make a step: it has not ended, and no answer is awaited
abbrev pub can_go_on : Doing → Bool
can_go_on Begins = true
can_go_on Answered = true
can_go_on Pending = false
can_go_on Paused = true
can_go_on Ended = false

-- after a step, where no answer stands yet
abbrev pub doing_after : Next → Doing
doing_after (next.Ask c) = Pending
doing_after next.Pause = Paused
doing_after next.Ended = Ended

-- when its turn comes in the round of so many that goes on at a place
abbrev pub in_round : ℕ → ℕ → ℕ → ℕ
in_round count next place = if nat_lt place next then place + count else place

-- the place behind another in a circle of so many
abbrev pub behind : ℕ → ℕ → ℕ
behind count place = if nat_lt (place + 1) count then place + 1 else 0

-- what the program at a place is doing
abbrev pub doing_at : List Doing → ℕ → Doing
doing_at doing place = slice_index_or doing place Ended

-- of so many programs the one at this place is the first in the round that can go on
pub record IsNextToGo (count next : ℕ) (doing : List Doing) (place : ℕ) : Type 0 where
  pub there : place < count
  pub ready : can_go_on (doing_at doing place) ≡ true
  pub first : (q : ℕ) → q < count → in_round count next q < in_round count next place → can_go_on (doing_at doing q) ≡ false

-- the first program at these places that can go on
pub record IsFirstToGo (from to : ℕ) (doing : List Doing) (place : ℕ) : Type 0 where
  pub from_is : from ≤ place
  pub below : place < to
  pub ready : can_go_on (doing_at doing place) ≡ true
  pub first : (q : ℕ) → from ≤ q → q < place → can_go_on (doing_at doing q) ≡ false

-- none at these places can
abbrev pub NoneCanGoWithin : ℕ → ℕ → List Doing → Type 0
NoneCanGoWithin from to doing = (q : ℕ) → from ≤ q → q < to → can_go_on (doing_at doing q) ≡ false

-- none can
abbrev pub NoneCanGo : ℕ → List Doing → Type 0
NoneCanGo count doing = (q : ℕ) → q < count → can_go_on (doing_at doing q) ≡ false

-- an answer stands to a process: the first program of it is answered
abbrev pub answered_at : {P : Type 0} → Pid → List (Pid × P) → List Doing → List Doing
answered_at p [] ds = ds
answered_at p (x ∷ xs) [] = []
answered_at p (x ∷ xs) (d ∷ ds) = if nat_eq p.0 x.0.0 then Answered ∷ ds else d ∷ answered_at p xs ds

-- an answer stands to each of these processes
abbrev pub all_answered : {P : Type 0} → List Pid → List (Pid × P) → List Doing → List Doing
all_answered [] all ds = ds
all_answered (p ∷ ps) all ds = all_answered ps all (answered_at p all ds)
