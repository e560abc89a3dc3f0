-- Kernels with their journals, as a world.
use Rattle.std.specs.Prelude.{◌≡◌, ◌≢◌, ◌≤◌, ◌<◌, ℕ, nat_eq, List, [], ◌∷◌, ◌++◌, length, map, All}
use Rattle.std.specs.Prelude.{slice_index_or, ◌*◌, Bool, true, false, Option, None, not, find}
use Rattle.std.specs.List.{range_with_len}
use Rattle.std.specs.Option.{option_to_list}
use Rattle.charlotte_calls.specs.declared.calls.Call.{Call}
use Rattle.charlotte_calls.specs.declared.names.Pid.{Pid}
use Rattle.charlotte_packets.specs.declared.picture.Picture.{Picture}
use Rattle.charlotte_calls.specs.declared.setting.Setting.{Setting}
use Rattle.kernel_nodes.specs.Nodes.{AreNodes, sent_to, world_of}
use Rattle.kernel_step.specs.Kernel.{process_of}
use Rattle.kernel_step.specs.Start.{home}
use Rattle.kernel_step.specs.declared.phase.Phase.TheVariants.{Running}
use Rattle.kernel_entries.specs.Ranges.{IsEntryInRange}
use Rattle.kernel_world.specs.World.{World, Event, Takes, after, noted}
use Rattle.kernel_entries.specs.Order.{of_kernel}
use Rattle.kernel_world.specs.Run.{AreAllowed, IsCallOf}
use Rattle.kernel_entries.specs.declared.entry.Entry.{Entry}
use Rattle.transcript_lines.specs.declared.last.ScriptNote.{ScriptNote}
use Rattle.lynx_plan.specs.declared.script.ScriptCall.{ScriptCall}
use Rattle.lynx_plan.specs.declared.script.ScriptLine.{ScriptLine}
use Rattle.script_run.specs.Performing.{Does, Performs, most_settled, pairs}
use Rattle.script_run.specs.declared.recorded.Recorded.{Recorded}
use Rattle.transcript_record.specs.Told.{IsToldWorld}

-- the state of each kernel, and the packets that are under way
abbrev pub world_at : Setting → Recorded → World
world_at s run = world_of s run.nodes.nodes.items

-- the packets under way from one kernel to another, oldest first
abbrev pub sent_from : Recorded → ℕ → ℕ → List Picture
sent_from run from to = slice_index_or (map sent_to run.nodes.nodes.items) from (λ _. []) to

-- what was noted at a kernel
abbrev pub noted_at : Recorded → ℕ → List Entry
noted_at run k = slice_index_or (map (λ j. j.entries) run.journals.items) k []

-- the kernels of a setting have a journal each: no entry has a stamp that its kernel has not reached, and all are values of their types
pub record AreRecorded (s : Setting) (run : Recorded) : Type 0 where
  pub nodes : AreNodes s run.nodes.nodes.items
  pub journals : length run.journals.items ≡ s.kernels
  pub stamped : (k : ℕ) → All (λ e. e.stamp ≤ ((world_at s run).kernel k).stamp) (noted_at run k)
  pub in_range : (k : ℕ) → All IsEntryInRange (noted_at run k)

-- so they are after so many events
pub record AreReady (s : Setting) (n : ℕ) (run : Recorded) : Type 0 where
  pub recorded : AreRecorded s run
  pub told : IsToldWorld s n (world_at s run)

-- a process that runs may make this call of its kernel
pub record IsCaller (s : Setting) (w : World) (k : ℕ) (p : Pid) (c : Call) : Type 0 where
  pub below : k < s.kernels
  pub process : p.0 < length s.homes
  pub at_home : home s p ≡ k
  pub runs : (process_of p (w.kernel k)).phase ≡ Running
  pub fits : IsCallOf s.version c

-- these events happened, one after the other
pub record Goes (s : Setting) (old new : Recorded) (es : List Event) : Type 0 where
  pub allowed : AreAllowed s (world_at s old) es
  pub world : world_at s new ≡ after (world_at s old) es
  pub entries : (k : ℕ) → noted_at new k ≡ noted_at old k ++ of_kernel k (noted (world_at s old) es)
  pub recorded : AreRecorded s new

-- a line was done, with this note, if it gave one
pub record IsLineDone (s : Setting) (line : ℕ) (what : ScriptCall) (note : Option ScriptNote) (old new : Recorded) : Type 0 where
  pub events : List Event
  pub does : Does s (world_at s old) line what events (option_to_list note)
  pub goes : Goes s old new events
  pub few : length events ≤ most_settled

-- lines were done in order, with these notes
pub record AreLinesDone (s : Setting) (lines : List ScriptLine) (notes : List ScriptNote) (old new : Recorded) : Type 0 where
  pub events : List Event
  pub performed : Performs s (world_at s old) lines events notes
  pub goes : Goes s old new events
  pub few : length events ≤ most_settled * length lines

-- the first packet from one kernel to another was taken, where there was one
abbrev pub IsTakenFirst : Setting → ℕ → ℕ → Bool → Recorded → Recorded → Type 0
IsTakenFirst s from to true old new = ((world_at s old).packets from to ≢ []) × Goes s old new (Takes to from ∷ [])
IsTakenFirst s from to false old new = ((world_at s old).packets from to ≡ []) × Goes s old new []

-- the first list that is not empty
abbrev pub first_pair : ℕ → World → Option (ℕ × ℕ)
first_pair kernels w = find (λ pair. not (nat_eq (length (w.packets pair.0 pair.1)) 0)) (pairs kernels)

-- no packet of the first n kernels is under way
abbrev pub AreQuietBelow : ℕ → ℕ → Recorded → Type 0
AreQuietBelow kernels n run =
    (from : ℕ) → from < n → find (λ to. not (nat_eq (length (sent_from run from to)) 0)) (range_with_len 0 kernels) ≡ None
