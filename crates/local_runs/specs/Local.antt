-- What kernels do each by itself, and when that fits together: local events, and local runs of them.
use Rattle.std.specs.Prelude.{◌≡◌, ◌<◌, ◌-◌, ◌^◌, ℕ, max, nat_eq, if◌then◌else◌, List, [], ◌∷◌, ◌++◌, length}
use Rattle.charlotte_calls.specs.declared.calls.Call.{Call}
use Rattle.charlotte_calls.specs.declared.names.EndId.{EndId}
use Rattle.charlotte_calls.specs.declared.names.Pid.{Pid}
use Rattle.charlotte_packets.specs.declared.picture.Picture.{Picture}
use Rattle.charlotte_calls.specs.declared.setting.Setting.{Setting}
use Rattle.transcript_lines.specs.TranscriptText.{HasFewPacket}
use Rattle.kernel_step.specs.Calls.{IsCallWith}
use Rattle.kernel_step.specs.Kernel.{Kernel, Outcome, call_step, process_of, take_step, without_answer}
use Rattle.kernel_step.specs.Start.{home, start_kernel}
use Rattle.kernel_step.specs.declared.phase.Phase.TheVariants.{Running}
use Rattle.kernel_entries.specs.Order.{of_kernel}
use Rattle.kernel_world.specs.Run.{IsCallOf, IsRecord}
use Rattle.kernel_world.specs.World.{Event, after, noted, start, to_kernel}
use Rattle.kernel_entries.specs.declared.entry.Entry.{Entry}
use Rattle.kernel_entries.specs.declared.entry.Happened.TheVariants.{Asked, Took}
use Rattle.kernel_entries.specs.declared.entry.Happened.{Happened}
use Rattle.kernel_entries.specs.declared.entry.Placed.{Placed}

-- an event as its kernel knows it
pub data LocalEvent : Type 0 where
  -- process p makes a call; mine are the ends that it owns, in order
  MakesCall : (p : Pid) → (c : Call) → (mine : List EndId) → LocalEvent
  -- this packet of a kernel is taken
  TakesPacket : (from : ℕ) → (q : Picture) → LocalEvent

-- what it gives at a kernel
abbrev pub gives : Kernel → LocalEvent → Outcome
gives x (MakesCall p c mine) = call_step (without_answer p x) p mine c
gives x (TakesPacket from q) = take_step x from q

abbrev pub happened : LocalEvent → Happened
happened (MakesCall p c mine) = Asked p c
happened (TakesPacket from q) = Took from q

abbrev pub entry_of : Kernel → LocalEvent → Entry
entry_of x o = record { stamp = (gives x o).kernel.stamp; what = happened o; steps = (gives x o).steps }

-- ---- a local run: events of one kernel, one after the other

-- how they leave the kernel
abbrev pub left_by : Kernel → List LocalEvent → Kernel
left_by x [] = x
left_by x (o ∷ os) = left_by (gives x o).kernel os

abbrev pub entries_of : Kernel → List LocalEvent → List Entry
entries_of x [] = []
entries_of x (o ∷ os) = entry_of x o ∷ entries_of (gives x o).kernel os

-- what they send to a kernel, oldest first
abbrev pub sends_to : ℕ → Kernel → List LocalEvent → List Picture
sends_to to x [] = []
sends_to to x (o ∷ os) = to_kernel to (gives x o).packets ++ sends_to to (gives x o).kernel os

-- what they take of a kernel, oldest first
abbrev pub takes_from : ℕ → List LocalEvent → List Picture
takes_from from [] = []
takes_from from (MakesCall p c mine ∷ os) = takes_from from os
takes_from from (TakesPacket j q ∷ os) = if nat_eq from j then q ∷ takes_from from os else takes_from from os

-- A process that runs calls its own kernel. A packet comes from a kernel that is there and carries at most eight values, as its type says
-- whatever the version, and neither its stamp nor the kernel's is the greatest number
abbrev pub IsLocalEvent : Setting → ℕ → Kernel → LocalEvent → Type 0
IsLocalEvent s k x (MakesCall p c mine) =
    (p.0 < length s.homes) × (home s p ≡ k) × ((process_of p x).phase ≡ Running) × IsCallOf s.version c × IsCallWith p x.table mine c
IsLocalEvent s k x (TakesPacket from q) = (from < x.kernels) × HasFewPacket 2 q.what × (max x.stamp q.stamp < 2 ^ 64 - 1)

abbrev pub IsLocalRun : Setting → ℕ → Kernel → List LocalEvent → Type 0
IsLocalRun s k x [] = Unit {0}
IsLocalRun s k x (o ∷ os) = IsLocalEvent s k x o × IsLocalRun s k (gives x o).kernel os

-- ---- the events of all kernels

-- Each kernel made a local run from the start. What one took of another, followed by what is left, is what this one sent to it
pub record FitTogether (s : Setting) (made : ℕ → List LocalEvent) (left : ℕ → ℕ → List Picture) : Type 0 where
  pub each : (k : ℕ) → IsLocalRun s k (start_kernel s k) (made k)
  pub packets : (from to : ℕ) → takes_from from (made to) ++ left from to ≡ sends_to to (start_kernel s from) (made from)

-- these are the entries of one run, which leaves each kernel as its local run does, and under way what is left
pub record IsOneRun (s : Setting) (made : ℕ → List LocalEvent) (left : ℕ → ℕ → List Picture) (merged : List Placed) : Type 0 where
  pub events : List Event
  pub recorded : IsRecord s events merged
  pub kernels : (k : ℕ) → (after (start s) events).kernel k ≡ left_by (start_kernel s k) (made k)
  pub packets : (from to : ℕ) → (after (start s) events).packets from to ≡ left from to

-- the events of a run of the world, kernel by kernel: with the packets that it leaves under way they fit together
pub record AreLocalRuns (s : Setting) (es : List Event) : Type 0 where
  pub made : ℕ → List LocalEvent
  pub fit : FitTogether s made (after (start s) es).packets
  pub entries : (k : ℕ) → of_kernel k (noted (start s) es) ≡ entries_of (start_kernel s k) (made k)
