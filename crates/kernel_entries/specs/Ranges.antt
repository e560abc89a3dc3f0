-- What entries are as values of their types.
use Rattle.std.specs.Prelude.{All}
use Rattle.charlotte_calls.specs.Ranges.{IsU8, IsU64, IsPid, IsCallInRange, IsStepInRange}
use Rattle.charlotte_packets.specs.Ranges.{IsPictureInRange}
use Rattle.kernel_entries.specs.declared.entry.Entry.{Entry}
use Rattle.kernel_entries.specs.declared.entry.Happened.{Happened}
use Rattle.kernel_entries.specs.declared.entry.Happened.TheVariants.{Asked, Took}
use Rattle.kernel_entries.specs.declared.entry.Placed.{Placed}

-- what happened
abbrev pub IsHappenedInRange : Happened → Type 0
IsHappenedInRange (Asked p call) = IsPid p × IsCallInRange call
IsHappenedInRange (Took from picture) = IsU8 from × IsPictureInRange picture

-- an event of a kernel
pub record IsEntryInRange (e : Entry) : Type 0 where
  pub stamp : IsU64 e.stamp
  pub what : IsHappenedInRange e.what
  pub steps : All IsStepInRange e.steps

-- an entry with its kernel
pub record IsPlacedInRange (p : Placed) : Type 0 where
  pub kernel : IsU8 p.kernel
  pub entry : IsEntryInRange p.entry
