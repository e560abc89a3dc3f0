-- How far a replay has come within the entries of a transcript, and which lines may follow.
use Rattle.std.specs.Prelude.{◌≡◌, ℕ, ◌+◌, ◌≤◌, ◌^◌, Bool, true, nat_eq, nat_lt, ◌&&◌, ◌||◌}
use Rattle.std.specs.Prelude.{IsTrue, List, [], ◌∷◌, ◌++◌, length, map, Option, None, Some, ◌↔◌}
use Rattle.std.specs.List.{flat_map}
use Rattle.charlotte_calls.specs.declared.calls.ServiceStep.{ServiceStep}
use Rattle.charlotte_calls.specs.declared.setting.Setting.{Setting}
use Rattle.transcript_lines.specs.declared.last.Last.{Last}
use Rattle.transcript_lines.specs.declared.last.ScriptNote.{ScriptNote}
use Rattle.kernel_world.specs.Run.{AreAllowed}
use Rattle.kernel_world.specs.World.{World, Event, after, happens, kernel_of, noted, outcome, start}
use Rattle.kernel_entries.specs.declared.entry.Placed.{Placed}
use Rattle.transcript_reading.specs.Kinds.{entry_kinds, shown_step}
use Rattle.transcript_reading.specs.declared.line.LineKind.{LineKind}
use Rattle.transcript_reading.specs.declared.line.LineKind.TheVariants as line
use Rattle.transcript_replay.specs.Replay.{AreWithin, IsTrueLast}

pub record Course : Type 0 where
  pub setting : Setting
  -- the world after the events so far, and how many these are
  pub world : World
  pub events : ℕ
  -- stamp and kernel of the last entry
  pub latest : Option (ℕ × ℕ)
  -- the steps of the last event that no line has shown yet
  pub due : List ServiceStep

-- before the first entry
abbrev pub course_start : Setting → Course
course_start s = record { setting = s; world = start s; events = 0; latest = None; due = [] }

-- an entry with this stamp and kernel may stand behind the last one
abbrev pub comes_after : Option (ℕ × ℕ) → ℕ → ℕ → Bool
comes_after None stamp kernel = true
comes_after (Some at) stamp kernel = nat_lt at.0 stamp || (nat_eq at.0 stamp && nat_lt at.1 kernel)

abbrev pub AreAfter : Option (ℕ × ℕ) → List Placed → Type 0
AreAfter at [] = Unit {0}
AreAfter at (p ∷ ps) = IsTrue (comes_after at p.entry.stamp p.kernel) × AreAfter (Some (p.entry.stamp, p.kernel)) ps

abbrev pub step_kinds : List ServiceStep → List LineKind
step_kinds steps = map (λ s. line.Service (shown_step s)) steps

abbrev pub end_kinds : List ScriptNote → Last → List LineKind
end_kinds notes last = map (λ n. line.Note n) notes ++ line.End last ∷ []

-- these lines may follow up to the end: the steps that are due, then further events of the run, notes, and a last line that is true
pub record IsRest (c : Course) (kinds : List LineKind) (last : Last) : Type 0 where
  pub events : List Event
  pub allowed : AreAllowed c.setting c.world events
  pub within : AreWithin c.setting events
  pub few : c.events + length events ≤ 2 ^ 31
  pub order : AreAfter c.latest (noted c.world events)
  pub notes : List ScriptNote
  pub shown : kinds ≡ step_kinds c.due ++ (flat_map entry_kinds (noted c.world events) ++ end_kinds notes last)
  pub true_last : IsTrueLast c.setting (after c.world events) last

-- the same behind a note: no entry follows
pub record IsRestOfNotes (c : Course) (kinds : List LineKind) (last : Last) : Type 0 where
  pub notes : List ScriptNote
  pub shown : kinds ≡ end_kinds notes last
  pub true_last : IsTrueLast c.setting c.world last

-- nothing follows the last line
abbrev pub IsOver : Last → List LineKind → Last → Type 0
IsOver ended more last = (more ≡ []) × (last ≡ ended)

-- one more event happened, and its steps are due
abbrev pub goes_on : Course → Event → Course
goes_on c e =
    let o = outcome c.world e in
    record {
      setting = c.setting;
      world = happens c.world e;
      events = c.events + 1;
      latest = Some (o.kernel.stamp, kernel_of e);
      due = o.steps;
    }

-- after this line just those lines may follow that may follow the new course
abbrev pub Leads : Course → LineKind → Course → Type 0
Leads old kind new = (more : List LineKind) (last : Last) → IsRest old (kind ∷ more) last ↔ IsRest new more last

-- this line may not follow
abbrev pub Refutes : Course → LineKind → Type 0
Refutes c kind = (more : List LineKind) (last : Last) → IsRest c (kind ∷ more) last → ⊥
