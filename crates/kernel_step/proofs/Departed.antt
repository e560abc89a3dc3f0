-- What an end that left or was destroyed leaves behind is not here.
use Rattle.std.specs.Prelude.{ℕ, Bool, true, false, if◌then◌else◌}
use Rattle.charlotte_packets.specs.declared.picture.MovingPicture.{MovingPicture}
use Rattle.end_table.specs.Entries.{left_value, left_entry, ended_entry}
use Rattle.end_table.specs.Table.{IsHere}
use Rattle.end_table.specs.declared.entry.Entry.TheVariants as entry

-- of an end that left to a kernel
pub left-IsHere : (to : ℕ) (m : MovingPicture) → IsHere (left_entry to m) → ⊥
left-IsHere to m = by m.dead
  where
    by : (b : Bool) → IsHere (if b then entry.Nothing else entry.Left to (left_value 0 m).hops) → ⊥
    by true h = h
    by false h = h

-- of an end that was destroyed
pub ended-IsHere : (m : MovingPicture) → IsHere (ended_entry m) → ⊥
ended-IsHere m = by m.dead
  where
    by : (b : Bool) → IsHere (if b then entry.Nothing else entry.Destroyed m) → ⊥
    by true h = h
    by false h = h
