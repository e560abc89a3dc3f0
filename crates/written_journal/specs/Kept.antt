-- Events that are kept in a text.
use Rattle.std.specs.Prelude.{◌≡◌, ℕ, ◌+◌, ◌<◌, ◌^◌, List, [], ◌∷◌, Option, None, Some, All, IfSome, length, map, slice_index_or, take}
use Rattle.journal_text.specs.Journal.{AreRising}
use Rattle.kernel_entries.specs.Ranges.{IsEntryInRange, IsHappenedInRange}
use Rattle.kernel_entries.specs.declared.entry.Entry.{Entry}
use Rattle.kernel_entries.specs.declared.entry.Happened.{Happened}
use Rattle.kernel_entries.specs.declared.entry.Happened.TheVariants.{Asked, Took}
use Rattle.written_journal.specs.Lines.{lines_of, text_of}
use Rattle.packed_lines.specs.Lines.{happened_line, AreLines}
use Rattle.packed_lines.specs.Packed.{kept_text, line_note}
use Rattle.written_journal.specs.Told.{Told}
use Rattle.packed_lines.specs.declared.kept_lines.KeptLines.{KeptLines}
use Rattle.written_journal.specs.declared.written.Event.{Event}
use Rattle.written_journal.specs.declared.written.Written.{Written}

-- the kernel from which a packet was taken, if one was
abbrev pub sender_of : Happened → Option ℕ
sender_of (Asked p call) = None
sender_of (Took from picture) = Some from

-- what stands of an entry beside its text, where these stand before it
abbrev pub event_of : List Entry → Entry → Event
event_of before e = record {
  stamp = e.stamp;
  from = sender_of e.what;
  lines = length e.steps + 1;
  lines_before = length (lines_of before);
  bytes_before = length (text_of before);
}

-- entries are kept in a text
pub record AreKept (w : Written) (es : List Entry) : Type 0 where
  pub text : w.text.items ≡ text_of es
  pub notes : w.notes.items ≡ map line_note (lines_of es)
  pub long : length w.events.items ≡ length es
  pub event : (n : ℕ) → n < length es → (d : Event) (x : Entry)
      → slice_index_or w.events.items n d ≡ event_of (take n es) (slice_index_or es n x)

-- the same events stand here
pub record HasSame (old new : Written) : Type 0 where
  pub text : new.text.items ≡ old.text.items
  pub notes : new.notes.items ≡ old.notes.items
  pub events : new.events.items ≡ old.events.items

-- the line of what is begun
abbrev pub begun_lines : Option Happened → List (List ℕ)
begun_lines None = []
begun_lines (Some what) = happened_line what ∷ []

abbrev pub begun_sender : Option Happened → Option ℕ
begun_sender None = None
begun_sender (Some what) = sender_of what

-- how many entries there are, with that of what is begun
abbrev pub count : Told → ℕ
count t = length t.entries + length (begun_lines t.begun)

-- a journal has what was told: the text of its entries, and the line of what is begun
pub record IsStored (w : Written) (begun : KeptLines) (from : Option ℕ) (t : Told) : Type 0 where
  pub kept : AreKept w t.entries
  pub line : AreLines begun (begun_lines t.begun)
  pub sender : from ≡ begun_sender t.begun
  pub rising : AreRising t.entries
  -- they are values of their types
  pub in_range : All IsEntryInRange t.entries
  pub begun_in_range : IfSome t.begun IsHappenedInRange
  -- they can be counted
  pub few : count t < 2 ^ 32

-- what contracts see of a journal
pub record Happenings : Type 0 where
  pub entries : List Entry
  -- what was begun, and has no stamp yet
  pub begun : Option Happened

abbrev pub happenings : Told → Happenings
happenings t = record { entries = t.entries; begun = t.begun }
