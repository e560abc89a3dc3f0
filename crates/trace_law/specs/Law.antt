-- What is left of links once all packets of a run were taken.
use Rattle.std.specs.Prelude.{◌≡◌, ℕ, ◌<◌, List, length, Contains}
use Rattle.charlotte_calls.specs.declared.names.EndId.{EndId}
use Rattle.charlotte_calls.specs.declared.names.Pid.{Pid}
use Rattle.charlotte_calls.specs.declared.setting.Setting.{Setting}
use Rattle.end_table.specs.Table.{IsHereAnd}
use Rattle.end_table.specs.declared.entry.Entry.{Entry}
use Rattle.end_table.specs.declared.entry.Entry.TheVariants as entry
use Rattle.end_table.specs.declared.entry.HereView.{HereView}
use Rattle.end_table.specs.declared.entry.Holder.{Holder}
use Rattle.end_table.specs.declared.entry.Holder.TheVariants as holder
use Rattle.kernel_entries.specs.declared.entry.Placed.{Placed}
use Rattle.kernel_step.specs.Actions.{enclosed_of}
use Rattle.kernel_step.specs.Start.{home}
use Rattle.kernel_world.specs.Run.{AllTaken, IsRecord}
use Rattle.kernel_world.specs.World.{Event, World, after, start}

-- a process of kernel k owns the end
abbrev pub IsOwnedAt : Setting → ℕ → Holder → Type 0
IsOwnedAt s k (holder.Owner p) = (p.0 < length s.homes) × (home s p ≡ k)
IsOwnedAt s k (holder.EnclosedIn on) = ⊥

-- or such an end has it enclosed in a message that waits; t is what the kernel keeps of each end
abbrev pub IsHeldAt : Setting → ℕ → (EndId → Entry) → EndId → Holder → Type 0
IsHeldAt s k t e (holder.Owner p) = IsOwnedAt s k (holder.Owner p)
IsHeldAt s k t e (holder.EnclosedIn on) = IsHereAnd (t on) (λ v. IsOwnedAt s k v.holder × Contains (enclosed_of v.outward) e)

-- an entry is no trace: if there is one, it is of an end that is here, and held so
abbrev pub IsHeldHere : Setting → ℕ → (EndId → Entry) → EndId → Entry → Type 0
IsHeldHere s k t e entry.Nothing = Unit {0}
IsHeldHere s k t e (entry.Here v) = IsHeldAt s k t e v.holder
IsHeldHere s k t e (entry.Left to hops) = ⊥
IsHeldHere s k t e (entry.Destroyed m) = ⊥

-- tables without traces: each kernel keeps nothing but the ends that its own processes have
abbrev pub AreHeldHere : Setting → World → Type 0
AreHeldHere s w = (k : ℕ) (e : EndId) → IsHeldHere s k (w.kernel k).table e ((w.kernel k).table e)

-- so it is after these events, if all packets were taken
abbrev pub IsBareAfter : Setting → List Event → Type 0
IsBareAfter s es = AllTaken (after (start s) es) → AreHeldHere s (after (start s) es)

-- so it is after each run whose entries in the order of a merge these are
abbrev pub IsBareRecord : Setting → List Placed → Type 0
IsBareRecord s merged = (es : List Event) → IsRecord s es merged → IsBareAfter s es
