-- Performing a script: which events its lines name, in which order, and what is noted where a line names none.
use Rattle.std.specs.Prelude.{◌≡◌, ℕ, zero, suc, nat_eq, not, List, [], ◌∷◌, ◌++◌, length}
use Rattle.std.specs.Prelude.{map, find, option_map, Option, None, Some, true, false}
use Rattle.std.specs.List.{flat_map, range_with_len}
use Rattle.charlotte_calls.specs.declared.calls.Call.{Call}
use Rattle.charlotte_calls.specs.declared.names.EndId.{EndId}
use Rattle.charlotte_calls.specs.declared.names.Pid.{Pid}
use Rattle.charlotte_packets.specs.declared.picture.Picture.{Picture}
use Rattle.charlotte_calls.specs.declared.setting.Setting.{Setting}
use Rattle.kernel_step.specs.Calls.{IsCallWith}
use Rattle.kernel_step.specs.Kernel.{process_of}
use Rattle.kernel_step.specs.Start.{home}
use Rattle.kernel_step.specs.declared.phase.Phase.{Phase}
use Rattle.kernel_step.specs.declared.phase.Phase.TheVariants.{Running, Waiting, Cancelling, Exited}
use Rattle.kernel_world.specs.World.{World, Event, Calls, Takes, happens, after, start}
use Rattle.kernel_world.specs.Run.{AllTaken}
use Rattle.kernel_entries.specs.declared.entry.Placed.{Placed}
use Rattle.transcript_lines.specs.declared.last.Last.{Last}
use Rattle.transcript_lines.specs.declared.last.Last.TheVariants.{Quiet, Unsettled, Spent}
use Rattle.transcript_lines.specs.declared.last.ScriptNote.{ScriptNote}
use Rattle.lynx_plan.specs.declared.script.ScriptLine.{ScriptLine}
use Rattle.lynx_plan.specs.declared.script.ScriptCall.{ScriptCall}
use Rattle.lynx_plan.specs.declared.script.ScriptCall.TheVariants.{Ask, Take, Settle}
use Rattle.transcript_record.specs.Record.{IsRecordOf}

-- ---- settling

-- the ordered pairs of kernels, by the first and then by the second
abbrev pub pairs : ℕ → List (ℕ × ℕ)
pairs kernels = flat_map (λ from. map (λ to. (from, to)) (range_with_len 0 kernels)) (range_with_len 0 kernels)

-- the taking of the first packet of the first list that is not empty
abbrev pub next_take : ℕ → World → Option Event
next_take kernels w =
    option_map (λ pair. Takes pair.1 pair.0) (find (λ pair. not (nat_eq (length (w.packets pair.0 pair.1)) 0)) (pairs kernels))

-- an event, if there is one, and those that follow it
abbrev pub then_events : Option Event → (Event → List Event) → List Event
then_events None others = []
then_events (Some e) others = e ∷ others e

-- packets are taken until all lists are empty, and at most so many
unfoldable pub settled : ℕ → ℕ → World → List Event
settled kernels zero w = []
settled kernels (suc most) w = then_events (next_take kernels w) (λ e. settled kernels most (happens w e))

-- the packets that one line may take
abbrev pub most_settled : ℕ
most_settled = 10000

-- ---- one line

-- what is noted of a line that names no event
abbrev pub waits_note : ℕ → ScriptNote
waits_note line = record { line = line; waits = true }

abbrev pub nothing_note : ℕ → ScriptNote
nothing_note line = record { line = line; waits = false }

-- the call of a process that runs, which is about the ends that it owns
pub record IsCall (s : Setting) (w : World) (p : Pid) (c : Call) (es : List Event) : Type 0 where
  pub mine : List EndId
  pub owned : IsCallWith p (w.kernel (home s p)).table mine c
  pub event : es ≡ Calls (home s p) p c mine ∷ []

-- no event, and a note
pub record IsNoted (note : ScriptNote) (es : List Event) (notes : List ScriptNote) : Type 0 where
  pub no_event : es ≡ []
  pub one_note : notes ≡ note ∷ []

-- a call of a process in this phase: one that waits, or has exited, makes no call
abbrev pub Asks : Setting → World → ℕ → Pid → Call → Phase → List Event → List ScriptNote → Type 0
Asks s w line p c Running es notes = IsCall s w p c es × (notes ≡ [])
Asks s w line p c Waiting es notes = IsNoted (waits_note line) es notes
Asks s w line p c (Cancelling on) es notes = IsNoted (waits_note line) es notes
Asks s w line p c Exited es notes = IsNoted (waits_note line) es notes

-- the taking of the first of these packets
abbrev pub TakesFirst : ℕ → ℕ → ℕ → List Picture → List Event → List ScriptNote → Type 0
TakesFirst line from to [] es notes = IsNoted (nothing_note line) es notes
TakesFirst line from to (q ∷ qs) es notes = (es ≡ Takes to from ∷ []) × (notes ≡ [])

-- what a line does in a world: its events in order, and its notes
abbrev pub Does : Setting → World → ℕ → ScriptCall → List Event → List ScriptNote → Type 0
Does s w line (Ask p c) es notes = Asks s w line p c (process_of p (w.kernel (home s p))).phase es notes
Does s w line (Take from to) es notes = TakesFirst line from to (w.packets from to) es notes
Does s w line Settle es notes = (es ≡ settled s.kernels most_settled w) × (notes ≡ [])

-- ---- all lines

-- the lines in order from a world on: the events and notes of all of them
abbrev pub Performs : Setting → World → List ScriptLine → List Event → List ScriptNote → Type 0
Performs s w [] es notes = (es ≡ []) × (notes ≡ [])
Performs s w (l ∷ ls) es notes =
    (now later : List Event) × (noted_now noted_later : List ScriptNote) × Does s w l.line l.what now noted_now
    × Performs s (after w now) ls later noted_later × (es ≡ now ++ later) × (notes ≡ noted_now ++ noted_later)

-- how the world is that a script leaves
abbrev pub IsLast : World → Last → Type 0
IsLast w Quiet = AllTaken w
IsLast w Unsettled = AllTaken w → ⊥
IsLast w (Spent kernel) = ⊥

-- A script was performed: its lines name these events, in their order, and give these notes, and this is the record of these events.
pub record IsPerformance (s : Setting) (lines : List ScriptLine) (merged : List Placed) (notes : List ScriptNote)
    (last : Last) : Type 0 where
  -- the events in the order of the lines
  pub named : List Event
  pub performed : Performs s (start s) lines named notes
  pub recorded : IsRecordOf s named merged
  pub last_world : IsLast (after (start s) named) last
