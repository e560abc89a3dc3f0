-- Reading a transcript from its first line on, with the first line that cannot stand where it stands.
use Rattle.std.specs.Prelude.{◌≡◌, ℕ, ◌+◌, ◌==◌, List, length, [], ◌∷◌, Bool, false, if◌then◌else◌, Option, Some, None, Result, Ok, Err}
use Rattle.std.specs.Global.{Vec}
use Rattle.charlotte_text.specs.declared.fault.Fault.{Fault}
use Rattle.charlotte_text.specs.Reading.{◌>>=◌, parts, words}
use Rattle.charlotte_text.specs.Spelling.{line_feed}
use Rattle.transcript_reading.specs.Forms.{kind_of}
use Rattle.transcript_reading.specs.Order.{Place, Start, Version, Processes, Wires, Entry, Noted, Over, next}
use Rattle.transcript_reading.specs.declared.line.LineKind.{LineKind}
use Rattle.transcript_reading.specs.declared.line.LineKind.TheVariants as line
use Rattle.transcript_reader.specs.declared.fault.LineFault.{LineFault}
use Rattle.transcript_reader.specs.declared.fault.LineFault.TheVariants.{BadLine, NoMemory}
use Rattle.transcript_reader.specs.declared.line.Line.{Line}
use Rattle.transcript_reader.specs.declared.place.Place.{Place as KeptPlace}
use Rattle.transcript_reader.specs.declared.place.Place.TheVariants as kept

-- the place that a reader keeps
abbrev pub seen : KeptPlace → Place
seen kept.Start = Start
seen kept.Version = Version
seen (kept.Processes kernels processes) = Processes kernels processes
seen (kept.Wires processes wires) = Wires processes wires
seen kept.Entry = Entry
seen (kept.Noted line) = Noted line
seen kept.Over = Over

-- a transcript of which some lines were read
pub record Unread : Type 0 where
  -- how many lines were read
  pub lines : ℕ
  -- the version that the first line told, and 0 before it was read
  pub version : ℕ
  -- what was read last
  pub place : Place
  -- the texts that line feeds separate and that are left; behind the last one stands no line feed
  pub texts : List (List ℕ)

-- before the first line
abbrev pub unread : List ℕ → Unread
unread bytes = record { lines = 0; version = 0; place = Start; texts = parts line_feed bytes }

-- the first line tells the version
abbrev pub version_after : ℕ → LineKind → ℕ
version_after version (line.First told) = told
version_after version k = version

-- what a line shows that may stand at a place, and the place behind it
unfoldable pub stand : ℕ → Place → List ℕ → Result (LineKind × Place) Fault
stand version place text = kind_of version (words text) >>= λ k. next place k >>= λ p. Ok (k, p)

-- nothing is left behind the last line
abbrev pub is_ended : Place → List ℕ → Bool
is_ended Over text = length text == 0
is_ended place text = false

-- ---- one line

-- a line of this number that was read, and what is left behind it, or the number
abbrev pub stood : ℕ → List (List ℕ) → ℕ → Result (LineKind × Place) Fault → Result (Option (Line × Unread)) ℕ
stood number left version (Ok x) =
    Ok (Some (
      record { number = number; what = x.0 },
      record { lines = number; version = version_after version x.0; place = x.1; texts = left },
    ))
stood number left version (Err e) = Err number

-- the first of the texts that are left
abbrev pub first_text : ℕ → ℕ → Place → List (List ℕ) → Result (Option (Line × Unread)) ℕ
first_text number version place [] = Err number
first_text number version place (text ∷ []) = if is_ended place text then Ok None else Err number
first_text number version place (text ∷ t ∷ ts) = stood number (t ∷ ts) version (stand version place text)

-- the next line and what is left behind it; none where all were read; or the number of the line that cannot stand there
unfoldable pub next_line : Unread → Result (Option (Line × Unread)) ℕ
next_line u = first_text (u.lines + 1) u.version u.place u.texts

-- a reader's answer, and what it then keeps
abbrev pub GivesNext : Unread → Result (Option Line) LineFault → Unread → Type 0
GivesNext old (Ok (Some l)) new = next_line old ≡ Ok (Some (l, new))
GivesNext old (Ok None) new = (next_line old ≡ Ok None) × (new ≡ old)
GivesNext old (Err (BadLine number)) new = (next_line old ≡ Err number) × (new ≡ old)
GivesNext old (Err NoMemory) new = ⊥

-- ---- all lines

-- a line before others
abbrev pub with_first : Line → Result (List Line) ℕ → Result (List Line) ℕ
with_first l (Ok ls) = Ok (l ∷ ls)
with_first l (Err number) = Err number

-- lines before others
abbrev pub with_all : List Line → Result (List Line) ℕ → Result (List Line) ℕ
with_all [] r = r
with_all (l ∷ ls) r = with_first l (with_all ls r)

-- a line of this number, and those behind it
abbrev pub then_lines : ℕ → (LineKind → Place → Result (List Line) ℕ) → Result (LineKind × Place) Fault → Result (List Line) ℕ
then_lines number others (Ok x) = with_first (record { number = number; what = x.0 }) (others x.0 x.1)
then_lines number others (Err e) = Err number

-- the lines from the one of this number on, or the number of the first that cannot stand where it stands
unfoldable pub lines_from : ℕ → ℕ → Place → List (List ℕ) → Result (List Line) ℕ
lines_from number version place [] = Err number
lines_from number version place (text ∷ []) = if is_ended place text then Ok [] else Err number
lines_from number version place (text ∷ t ∷ ts) =
    then_lines number (λ k p. lines_from (number + 1) (version_after version k) p (t ∷ ts)) (stand version place text)

abbrev pub lines_left : Unread → Result (List Line) ℕ
lines_left u = lines_from (u.lines + 1) u.version u.place u.texts

-- the lines of a text
abbrev pub lines_read : List ℕ → Result (List Line) ℕ
lines_read bytes = lines_left (unread bytes)

-- what a call gives is what is read, unless memory ran out
abbrev pub GivesLines : Result (List Line) ℕ → Result (Vec Line) LineFault → Type 0
GivesLines read (Ok lines) = read ≡ Ok lines.items
GivesLines read (Err (BadLine number)) = read ≡ Err number
GivesLines read (Err NoMemory) = Unit {0}
