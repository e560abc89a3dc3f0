-- World runs: lists of events, each allowed where it happens, and what is noted of them.
use Rattle.std.specs.Prelude.{◌≡◌, ◌≢◌, ℕ, ◌≤◌, ◌<◌, ◌^◌, nat_eq, if◌then◌else◌, List, [], ◌∷◌, length}
use Rattle.charlotte_calls.specs.declared.calls.Call.{Call}
use Rattle.charlotte_calls.specs.declared.calls.Call.TheVariants as call
use Rattle.charlotte_calls.specs.declared.setting.Setting.{Setting}
use Rattle.kernel_step.specs.Calls.{IsCallWith}
use Rattle.kernel_step.specs.Kernel.{process_of}
use Rattle.kernel_step.specs.declared.phase.Phase.TheVariants.{Running}
use Rattle.kernel_step.specs.Start.{home}
use Rattle.kernel_entries.specs.declared.entry.Placed.{Placed}
use Rattle.kernel_entries.specs.Order.{AreInOrder}
use Rattle.kernel_world.specs.World.{World, Event, Calls, Takes, happens, noted, start}

-- in version 1 a message encloses at most one end, in version 2 at most eight; messages and prints have at most 256 bytes
abbrev pub IsCallOf : ℕ → Call → Type 0
IsCallOf version (call.Send on bytes xs) = (length xs ≤ (if nat_eq version 1 then 1 else 8)) × (length bytes ≤ 256)
IsCallOf version (call.Print bytes) = length bytes ≤ 256
IsCallOf version _ = Unit {0}

-- a process that runs may call its own kernel; a packet that is there may be taken
abbrev pub IsAllowed : Setting → World → Event → Type 0
IsAllowed s w (Calls k p c mine) =
    (p.0 < length s.homes) × (home s p ≡ k) × ((process_of p (w.kernel k)).phase ≡ Running) × IsCallOf s.version c
    × IsCallWith p (w.kernel k).table mine c
IsAllowed s w (Takes k from) = w.packets from k ≢ []

-- each of these events is allowed in the world that those before it leave
abbrev pub AreAllowed : Setting → World → List Event → Type 0
AreAllowed s w [] = Unit {0}
AreAllowed s w (e ∷ es) = IsAllowed s w e × AreAllowed s (happens w e) es

-- a run of a setting
pub record IsRun (s : Setting) (es : List Event) : Type 0 where
  pub allowed : AreAllowed s (start s) es
  -- no number runs out in so many events
  pub few : length es ≤ 2 ^ 31

-- these are the entries of a run of a setting, in the order of a merge
pub record IsRecord (s : Setting) (es : List Event) (merged : List Placed) : Type 0 where
  pub run : IsRun s es
  pub order : AreInOrder merged
  pub entries : noted (start s) es ≡ merged

-- no packet is under way
abbrev pub AllTaken : World → Type 0
AllTaken w = (from to : ℕ) → w.packets from to ≡ []
