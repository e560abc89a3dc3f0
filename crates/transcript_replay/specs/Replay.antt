-- Transcripts that tell a run of kernels.
use Rattle.std.specs.Prelude.{◌≡◌, ◌<◌, List, [], ◌∷◌, ◌++◌}
use Rattle.charlotte_calls.specs.Setting.{IsValid}
use Rattle.charlotte_calls.specs.declared.setting.Setting.{Setting}
use Rattle.transcript_lines.specs.declared.last.Last.{Last}
use Rattle.transcript_lines.specs.declared.last.Last.TheVariants.{Quiet, Unsettled, Spent}
use Rattle.transcript_lines.specs.declared.last.ScriptNote.{ScriptNote}
use Rattle.kernel_world.specs.Run.{AllTaken, IsRecord}
use Rattle.kernel_world.specs.World.{World, Event, after, kernel_of, start}
use Rattle.kernel_entries.specs.declared.entry.Placed.{Placed}
use Rattle.transcript_reading.specs.Kinds.{transcript_kinds}
use Rattle.transcript_reading.specs.declared.line.LineKind.{LineKind}

-- the last line is true of the world that is left: no packet is under way, or one is, or the kernel is there whose turns were spent
abbrev pub IsTrueLast : Setting → World → Last → Type 0
IsTrueLast s w Quiet = AllTaken w
IsTrueLast s w Unsettled = AllTaken w → ⊥
IsTrueLast s w (Spent kernel) = kernel < s.kernels

-- each event happens at a kernel that is there
abbrev pub AreWithin : Setting → List Event → Type 0
AreWithin s [] = Unit {0}
AreWithin s (e ∷ es) = (kernel_of e < s.kernels) × AreWithin s es

-- These lines are the transcript of a run of kernels. Its events are allowed, and their entries
-- stand in the order of a merge. So each entry line has the stamp that its kernel gives, a
-- packet is the one that was sent, and below an entry stand the service steps of its event.
pub record IsReplay (kinds : List LineKind) (last : Last) : Type 0 where
  pub setting : Setting
  pub valid : IsValid setting
  pub events : List Event
  pub within : AreWithin setting events
  pub merged : List Placed
  pub recorded : IsRecord setting events merged
  pub notes : List ScriptNote
  pub shown : kinds ≡ transcript_kinds setting merged notes last
  pub true_last : IsTrueLast setting (after (start setting) events) last

-- a line is the first that differs: the lines before it begin the transcript of a run, and with it they begin none
pub record IsDifference (before : List LineKind) (kind : LineKind) : Type 0 where
  pub more : List LineKind
  pub last : Last
  pub begins : IsReplay (before ++ more) last
  pub differs : (others : List LineKind) (ending : Last) → IsReplay (before ++ kind ∷ others) ending → ⊥
