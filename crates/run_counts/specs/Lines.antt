-- Counting in the lines of a transcript.
use Rattle.std.specs.Prelude.{ℕ, ◌+◌, ◌-◌, Bool, true, false, not, List, [], ◌∷◌, length, take, Result, Ok, Err}
use Rattle.charlotte_calls.specs.declared.setting.Setting.{Setting}
use Rattle.charlotte_text.specs.Reading.{words}
use Rattle.charlotte_text.specs.declared.fault.Fault.{Fault}
use Rattle.kernel_entries.specs.declared.entry.Placed.{Placed}
use Rattle.run_counts.specs.Counts.{is_complete, is_match, is_refuse, is_take}
use Rattle.run_counts.specs.declared.counts.Counts.{Counts}
use Rattle.transcript_lines.specs.Transcript.{bit, transcript_lines}
use Rattle.transcript_lines.specs.declared.last.Last.TheVariants.{Quiet}
use Rattle.transcript_lines.specs.declared.last.ScriptNote.{ScriptNote}
use Rattle.transcript_reading.specs.Forms.{kind_of}
use Rattle.transcript_reading.specs.declared.line.LineKind.{LineKind}
use Rattle.transcript_reading.specs.declared.line.LineKind.TheVariants as kind
use Rattle.transcript_reading.specs.declared.line.ServiceLine.{ServiceLine}

abbrev pub no_counts : Counts
no_counts = record { calls = 0; waits = 0; nothing = 0; events = 0; refused = 0; matches = 0; takes = 0; completes = 0 }

-- a line of a kind: an entry, by whether it is a call, a service line, or a note
abbrev pub one_of : (Bool → Bool) → (ServiceLine → Bool) → (ScriptNote → Bool) → LineKind → Bool
one_of entry step note (kind.CallEntry stamp kernel p call) = entry true
one_of entry step note (kind.PacketEntry stamp kernel from picture) = entry false
one_of entry step note (kind.Service s) = step s
one_of entry step note (kind.Note n) = note n
one_of entry step note _ = false

abbrev pub no_entry : Bool → Bool
no_entry b = false

abbrev pub no_step : ServiceLine → Bool
no_step s = false

abbrev pub no_note : ScriptNote → Bool
no_note n = false

-- with a line that shows this
abbrev pub with_line : Counts → LineKind → Counts
with_line c k = record {
  calls = c.calls + bit (one_of (λ b. b) no_step no_note k);
  waits = c.waits + bit (one_of no_entry no_step (λ n. n.waits) k);
  nothing = c.nothing + bit (one_of no_entry no_step (λ n. not n.waits) k);
  events = c.events + bit (one_of (λ b. true) no_step no_note k);
  refused = c.refused + bit (one_of no_entry is_refuse no_note k);
  matches = c.matches + bit (one_of no_entry is_match no_note k);
  takes = c.takes + bit (one_of no_entry is_take no_note k);
  completes = c.completes + bit (one_of no_entry is_complete no_note k);
}

-- with what was read; what is no line is not counted
abbrev pub with_read : Counts → Result LineKind Fault → Counts
with_read c (Ok k) = with_line c k
with_read c (Err fault) = c

-- what a line shows, by the text before its line feed
abbrev pub read_line : ℕ → List ℕ → Result LineKind Fault
read_line version line = kind_of version (words (take (length line - 1) line))

-- with lines of this version, one after the other
abbrev pub with_lines : ℕ → List (List ℕ) → Counts → Counts
with_lines version [] c = c
with_lines version (l ∷ ls) c = with_lines version ls (with_read c (read_line version l))

-- with notes
abbrev pub with_notes : List ScriptNote → Counts → Counts
with_notes [] c = c
with_notes (n ∷ ns) c = with_notes ns (with_line c (kind.Note n))

-- ---- the lines of entries

-- a transcript without processes, wires and notes
abbrev pub bare_setting : ℕ → Setting
bare_setting version = record { version = version; kernels = 0; homes = []; wires = [] }

abbrev pub bare_lines : ℕ → List Placed → List (List ℕ)
bare_lines version merged = transcript_lines (bare_setting version) merged [] Quiet
