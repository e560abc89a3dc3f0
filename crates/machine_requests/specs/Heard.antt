-- What a thread was given its instruction hears.
use Rattle.std.specs.Prelude.{◌≡◌, ℕ, List, [], Some, slice_get, ⊤}
use Rattle.lynx_meaning.specs.Code.{Next, Goes, Over, Comes, Program}
use Rattle.lynx_meaning.specs.Courses.{Action, Await, Waits}
use Rattle.lynx_meaning.specs.Needs.{Wanted, wanted_by}
use Rattle.lynx_meaning.specs.Values.{Value}
use Rattle.machine_turns.specs.Threads.{Standing, goes_on, last_action}
use Rattle.machine_turns.specs.Turns.{Turns, Beat, RunsOn, Stops}
use Rattle.machine_turns.specs.Turns as turns

-- where the thread goes on, nothing is left of what it was given
abbrev pub HearsAll : Next → Type 0
HearsAll (Goes t) = t.moment.answers ≡ []
HearsAll (Over behaviour) = ⊤

-- it waits for an action of the module that needs this
abbrev pub Asks : Wanted → Next → Type 0
Asks wanted (Over (Comes (Waits actions store))) =
    (a : Action) × (last_action actions ≡ Some a) × (wanted_by a ≡ wanted) × (a ≡ Await → ⊥)
Asks wanted _ = ⊥

-- with these variables of the module the thread's instruction hears all that it was given, and asks for what it wants
pub record IsHeard (p : Program) (globals : List Value) (s : Standing) : Type 0 where
  pub hears : HearsAll (goes_on p globals s)
  pub asks : (w : Wanted) → s.wanted ≡ Some w → Asks w (goes_on p globals s)

-- So it is for each thread: for the one that has the turn with the variables as they stand, and for any other with whatever variables.
abbrev pub AreHeard : Program → Turns → Type 0
AreHeard p t =
    (n : ℕ) (s : Standing) (globals : List Value) → slice_get t.threads n ≡ Some (Some s)
    → (t.running ≡ Some n → globals ≡ t.globals) → IsHeard p globals s

-- beats leave turns of which this holds
abbrev pub Leaves : (Turns → Type 0) → Beat → Type 0
Leaves Holds (RunsOn fuel t) = Holds t
Leaves Holds (Stops stop fuel t) = Holds t
Leaves Holds turns.Broken = ⊥
