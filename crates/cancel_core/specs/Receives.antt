-- Receives that are started.
use Rattle.std.specs.Prelude.{ℕ}
use Rattle.end_table.specs.declared.entry.Inward.{Inward}
use Rattle.end_table.specs.declared.entry.Inward.TheVariants as inward

-- the receive is started, and no Cancel of it waits
abbrev pub IsPosted : Inward → Type 0
IsPosted (inward.Posted w) = Unit {0}
IsPosted _ = ⊥

-- this is true of the number of such a receive
abbrev pub IfPosted : Inward → (ℕ → Type 0) → Type 0
IfPosted (inward.Posted w) p = p w
IfPosted _ p = Unit {0}
