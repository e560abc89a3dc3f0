-- The order of an event's packets.
use Rattle.std.specs.Prelude.{ℕ, ◌-◌, List, ◌++◌, take, drop}
use Rattle.kernel_step.specs.Progress.{Progress}

-- of the packets before a place, the first ones go behind the others
abbrev pub moved_behind : {X : Type 0} → ℕ → ℕ → List X → List X
moved_behind first upto ps = (take (upto - first) (drop first ps) ++ take first ps) ++ drop upto ps

unfoldable pub put_behind : ℕ → ℕ → Progress → Progress
put_behind first upto d = record d { packets = moved_behind first upto d.packets }
