-- The thread that goes on next.
use Rattle.std.specs.Prelude.{ℕ, List, [], ◌∷◌, Option, None, Some}
use Rattle.machine_turns.specs.Turns.{Turns}

-- the one that has the turn, or else the first that is ready
abbrev pub next_number : Option ℕ → List ℕ → Option ℕ
next_number (Some n) ready = Some n
next_number None (n ∷ ready) = Some n
next_number None [] = None

-- it has the turn
abbrev pub takes_by : Turns → Option ℕ → List ℕ → Turns
takes_by t (Some n) ready = t
takes_by t None (n ∷ ready) = record t { running = Some n; ready = ready }
takes_by t None [] = t

abbrev pub takes_turn : Turns → Turns
takes_turn t = takes_by t t.running t.ready
