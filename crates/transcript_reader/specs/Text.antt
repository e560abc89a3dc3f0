-- Texts of lines: which lines may stand one behind the other, and which is the first that cannot stand.
use Rattle.std.specs.Prelude.{◌≡◌, ℕ, ◌+◌, List, [], ◌∷◌, ◌++◌, length, map, Result, Ok}
use Rattle.std.specs.List.{concat}
use Rattle.charlotte_text.specs.declared.fault.Fault.{Fault}
use Rattle.transcript_lines.specs.Transcript.{line}
use Rattle.transcript_reading.specs.Order.{Place, Start, Over, next, follows}
use Rattle.transcript_reading.specs.Reading.{Told, with_lines, nothing_told}
use Rattle.transcript_reading.specs.declared.line.LineKind.{LineKind}
use Rattle.transcript_reading.specs.Spelling.{kind_text, IsKind}
use Rattle.transcript_reader.specs.Lines.{version_after}
use Rattle.transcript_reader.specs.declared.fault.LineFault.{LineFault}
use Rattle.transcript_reader.specs.declared.fault.LineFault.TheVariants.{BadLine, NoMemory}
use Rattle.transcript_reader.specs.declared.line.Line.{Line}

-- a line of a transcript, with its line feed
abbrev pub kind_line : LineKind → List ℕ
kind_line k = line (kind_text k)

-- lines of a version, or of the one that their first line tells
abbrev pub AreKinds : ℕ → List LineKind → Type 0
AreKinds version [] = Unit {0}
AreKinds version (k ∷ ks) = IsKind version k × AreKinds (version_after version k) ks

-- the version behind lines
abbrev pub version_behind : ℕ → List LineKind → ℕ
version_behind version [] = version
version_behind version (k ∷ ks) = version_behind (version_after version k) ks

-- how lines are spelled
abbrev pub kinds_text : List LineKind → List ℕ
kinds_text ks = concat (map kind_line ks)

-- lines with their numbers, from this one on
abbrev pub numbered : ℕ → List LineKind → List Line
numbered number [] = []
numbered number (k ∷ ks) = record { number = number; what = k } ∷ numbered (number + 1) ks

-- a text begins with these lines, behind which is this place
pub record Begins (text : List ℕ) (ks : List LineKind) (place : Place) (rest : List ℕ) : Type 0 where
  pub spelled : text ≡ kinds_text ks ++ rest
  pub kinds : AreKinds 0 ks
  pub in_order : follows ks Start ≡ Ok place

-- a text is these lines, in the order of a transcript
pub record AreLines (text : List ℕ) (lines : List Line) : Type 0 where
  pub kinds : List LineKind
  pub counted : lines ≡ numbered 1 kinds
  pub whole : Begins text kinds Over []

-- the line of this number is the first that cannot stand in its place
pub record IsBadLine (text : List ℕ) (number : ℕ) : Type 0 where
  -- the lines before it, which stand, the place behind them and the text from there on
  pub before : List LineKind
  pub place : Place
  pub rest : List ℕ
  pub begins : Begins text before place rest
  pub counted : number ≡ length before + 1
  -- the text goes on there, or lacks its last line
  pub unended : place ≡ Over → rest ≡ [] → ⊥
  -- and begins with no line that may stand there
  pub none : (k : LineKind) (behind : Place) (more : List ℕ) → IsKind (version_behind 0 before) k → next place k ≡ Ok behind
      → rest ≡ kind_line k ++ more → ⊥

-- the fault names the first line of a text that cannot stand in its place
abbrev pub IsFaultOf : List ℕ → LineFault → Type 0
IsFaultOf text (BadLine number) = IsBadLine text number
IsFaultOf text NoMemory = Unit {0}

-- what lines tell together
abbrev pub told_by_lines : List Line → Result Told Fault
told_by_lines ls = with_lines (map (λ l. l.what) ls) nothing_told
