-- Sends that are started.
use Rattle.end_table.specs.declared.entry.Outward.{Outward}
use Rattle.end_table.specs.declared.entry.Outward.TheVariants as outward

-- the send is started, and not matched
abbrev pub IsWaiting : Outward → Type 0
IsWaiting (outward.Waiting n bytes xs) = Unit {0}
IsWaiting _ = ⊥
