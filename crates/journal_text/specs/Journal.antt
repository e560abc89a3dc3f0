-- Journals: the entries of one kernel, in the order of its events.
use Rattle.std.specs.Prelude.{ℕ, ◌<◌, List, [], ◌∷◌}
use Rattle.kernel_entries.specs.declared.entry.Entry.{Entry}
use Rattle.kernel_entries.specs.declared.entry.Placed.{Placed}

-- this stamp is greater than that of the last entry
abbrev pub IsAfterLast : List Entry → ℕ → Type 0
IsAfterLast [] stamp = Unit {0}
IsAfterLast (e ∷ []) stamp = e.stamp < stamp
IsAfterLast (e ∷ f ∷ es) stamp = IsAfterLast (f ∷ es) stamp

-- each stamp is greater than the one before it
abbrev pub AreRising : List Entry → Type 0
AreRising [] = Unit {0}
AreRising (e ∷ []) = Unit {0}
AreRising (e ∷ f ∷ es) = (e.stamp < f.stamp) × AreRising (f ∷ es)

-- an entry of the journal of this kernel
abbrev pub placed_at : ℕ → Entry → Placed
placed_at kernel e = record { kernel = kernel; entry = e }
