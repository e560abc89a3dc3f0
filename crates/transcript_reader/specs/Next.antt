-- The next line of a transcript, where it is expected to be a certain one.
use Rattle.std.specs.Prelude.{◌≡◌, ◌+◌, ◌++◌, ℕ, Bool, true, false, List, None, Some, Result, Ok, Err}
use Rattle.charlotte_text.specs.Reading.{parts}
use Rattle.charlotte_text.specs.Spelling.{line_feed}
use Rattle.transcript_reading.specs.Spelling.{IsKind, kind_text}
use Rattle.transcript_lines.specs.declared.last.ScriptNote.{ScriptNote}
use Rattle.transcript_reading.specs.Order.{Entry, Noted, next}
use Rattle.transcript_reading.specs.declared.line.LineKind.{LineKind}
use Rattle.transcript_reading.specs.declared.line.LineKind.TheVariants as line
use Rattle.transcript_reader.specs.Lines.{GivesNext, Unread, next_line}
use Rattle.transcript_reader.specs.declared.fault.LineFault.{LineFault}
use Rattle.transcript_reader.specs.declared.line.Line.{Line}

-- what is unread begins with the text of this line, of an entry or of a step below one, behind which this is left
pub record IsAhead (u : Unread) (k : LineKind) (left : List ℕ) : Type 0 where
  pub texts : u.texts ≡ parts line_feed (kind_text k ++ left)
  pub kind : IsKind u.version k
  pub stands : next Entry k ≡ Ok Entry

-- this line comes next behind an entry or a step, and was read
pub record Reads (old : Unread) (k : LineKind) (new : Unread) : Type 0 where
  pub line : next_line old ≡ Ok (Some (record { number = old.lines + 1; what = k }, new))
  pub counted : new.lines ≡ old.lines + 1
  pub before : old.place ≡ Entry
  pub behind : new.place ≡ Entry

-- this note comes next behind another note, and was read
pub record ReadsNote (old : Unread) (note : ScriptNote) (new : Unread) : Type 0 where
  pub line : next_line old ≡ Ok (Some (record { number = new.lines; what = line.Note note }, new))
  pub before : ℕ
  pub was : old.place ≡ Noted before
  pub is : new.place ≡ Noted note.line

-- there is a next line, which was passed
abbrev pub Skips : Unread → Unread → Type 0
Skips old new = (l : Line) × (next_line old ≡ Ok (Some (l, new)))

-- a note comes next behind another note, and was passed
abbrev pub SkipsNote : Unread → Unread → Type 0
SkipsNote old new = (note : ScriptNote) × ReadsNote old note new

-- a reader's answer where the line itself is not given
abbrev pub GivesSkipped : Unread → Result Bool LineFault → Unread → Type 0
GivesSkipped old (Ok true) new = Skips old new
GivesSkipped old (Ok false) new = (next_line old ≡ Ok None) × (new ≡ old)
GivesSkipped old (Err fault) new = GivesNext old (Err fault) new
