-- Who owns an end, and whose activities a change of one end leaves as they were.
use Rattle.std.specs.Prelude.{◌≡◌, false, Option, None, Some}
use Rattle.charlotte_calls.specs.declared.names.EndId.{EndId}
use Rattle.charlotte_calls.specs.declared.names.Pid.{Pid}
use Rattle.end_table.specs.Owned.{owned}
use Rattle.end_table.specs.Place.{end_eq}
use Rattle.end_table.specs.declared.entry.Entry.{Entry}
use Rattle.end_table.specs.declared.entry.Entry.TheVariants as entry
use Rattle.end_table.specs.declared.entry.Holder.{Holder}
use Rattle.end_table.specs.declared.entry.Holder.TheVariants as holder
use Rattle.kernel_step.specs.Calls.{is_active}

-- the process that holds an end
abbrev pub owner_in : Holder → Option Pid
owner_in (holder.Owner p) = Some p
owner_in (holder.EnclosedIn on) = None

-- the process that owns an end, if one does
abbrev pub owner_of : Entry → Option Pid
owner_of entry.Nothing = None
owner_of (entry.Here v) = owner_in v.holder
owner_of (entry.Left to hops) = None
owner_of (entry.Destroyed m) = None

-- whether a process has an activity at an end is as it was, but at this one
abbrev pub IsCalmBut : EndId → (EndId → Entry) → (EndId → Entry) → Type 0
IsCalmBut end t u = (p : Pid) (e : EndId) → end_eq end e ≡ false → is_active (owned p (u e)) ≡ is_active (owned p (t e))
