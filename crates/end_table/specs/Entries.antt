-- What happens to one entry of a table.
use Rattle.std.specs.Prelude.{ℕ, ◌+◌, ◌^◌, ◌-◌, Bool, nat_lt, min, bit_or, if◌then◌else◌}
use Rattle.charlotte_packets.specs.declared.picture.MovingPicture.{MovingPicture}
use Rattle.end_table.specs.declared.entry.Entry.{Entry}
use Rattle.end_table.specs.declared.entry.Entry.TheVariants as entry
use Rattle.end_table.specs.declared.entry.HereView.{HereView}
use Rattle.end_table.specs.declared.entry.Holder.{Holder}
use Rattle.end_table.specs.declared.entry.Outward.TheVariants as outward
use Rattle.end_table.specs.declared.entry.Inward.TheVariants as inward

-- one more, but for the greatest number of 32 bits, which stays
abbrev pub gains_one : ℕ → ℕ
gains_one n = min (n + 1) (2 ^ 32 - 1)

-- the value of an end that leaves kernel k: it has one more hop, and k is in its trail
abbrev pub left_value : ℕ → MovingPicture → MovingPicture
left_value k m = record m { hops = gains_one m.hops; trail = bit_or m.trail (2 ^ k) }

-- what an end that leaves to a kernel leaves behind: nothing, where it is dead
abbrev pub left_entry : ℕ → MovingPicture → Entry
left_entry to m = if m.dead then entry.Nothing else entry.Left to (gains_one m.hops)

-- what a destroyed end leaves behind: nothing, where it is dead
abbrev pub ended_entry : MovingPicture → Entry
ended_entry m = if m.dead then entry.Nothing else entry.Destroyed m

-- news of the opposite end is news where it has more hops than what was last heard
abbrev pub is_news : MovingPicture → ℕ → Bool
is_news m hops = nat_lt m.hint.1 hops

-- the value after it heard that the opposite end is at a kernel with these hops
abbrev pub learned : ℕ → ℕ → MovingPicture → MovingPicture
learned at hops m = if is_news m hops then record m { hint = (at, hops) } else m

-- an end as it becomes Here: both its activities are idle
abbrev pub settled : Holder → MovingPicture → HereView
settled holder m = record { value = m; holder = holder; outward = outward.Idle; inward = inward.Idle }
