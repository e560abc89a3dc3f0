-- How much is left to do of a run.
use Rattle.std.specs.Prelude.{ℕ, ◌+◌, ◌*◌, List, [], ◌∷◌, Bool, true, false, Option, Some, None, ⊤}
use Rattle.machine_turns.specs.Threads.{Standing, is_fresh}
use Rattle.machine_turns.specs.Turns.{Turns, Beat, RunsOn, Stops}
use Rattle.machine_turns.specs.Turns as turns

abbrev pub one_unless : Bool → ℕ
one_unless true = 0
one_unless false = 1

-- a thread stands amid an instruction, which was given something
abbrev pub amid : Standing → ℕ
amid s = one_unless (is_fresh s)

abbrev pub amid_there : Option Standing → ℕ
amid_there None = 0
amid_there (Some s) = amid s

-- how many threads do
abbrev pub count_amid : List (Option Standing) → ℕ
count_amid [] = 0
count_amid (o ∷ os) = amid_there o + count_amid os

-- What is left to do with so much fuel: an instruction takes fuel as it begins, and none where it goes on with what it was given.
abbrev pub weight : ℕ → Turns → ℕ
weight fuel t = 2 * fuel + count_amid t.threads

-- a run does not go on: it stopped, or what no code of a module comes to
abbrev pub Ends : Beat → Type 0
Ends (RunsOn fuel t) = ⊥
Ends (Stops stop fuel t) = ⊤
Ends turns.Broken = ⊤
