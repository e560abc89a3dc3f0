-- Reading a transcript: its lines, and what they tell.
use Rattle.std.specs.Prelude.{ℕ, ◌==◌, if◌then◌else◌, List, [], ◌∷◌, length, Result, Ok, Err}
use Rattle.charlotte_calls.specs.declared.calls.ServiceStep.{ServiceStep}
use Rattle.charlotte_calls.specs.declared.setting.Setting.{Setting}
use Rattle.charlotte_text.specs.declared.fault.Fault.{Fault}
use Rattle.charlotte_text.specs.declared.fault.Fault.TheVariants.{Form}
use Rattle.charlotte_text.specs.Reading.{◌>>=◌, parts, words}
use Rattle.charlotte_text.specs.Spelling.{line_feed}
use Rattle.transcript_lines.specs.declared.last.Last.{Last}
use Rattle.transcript_lines.specs.declared.last.Last.TheVariants.{Quiet}
use Rattle.transcript_lines.specs.declared.last.ScriptNote.{ScriptNote}
use Rattle.kernel_entries.specs.declared.entry.Happened.{Happened}
use Rattle.kernel_entries.specs.declared.entry.Happened.TheVariants.{Asked, Took}
use Rattle.kernel_entries.specs.declared.entry.Placed.{Placed}
use Rattle.transcript_reading.specs.Forms.{kind_of}
use Rattle.transcript_reading.specs.Kinds.{full_step}
use Rattle.transcript_reading.specs.Order.{Start, follows, is_whole}
use Rattle.transcript_reading.specs.declared.line.LineKind.{LineKind}
use Rattle.transcript_reading.specs.declared.line.LineKind.TheVariants as line
use Rattle.transcript_reading.specs.declared.line.ServiceLine.{ServiceLine}

-- ---- from a text to its lines

-- each part but the last is a line, and nothing stands behind the last line feed
unfoldable pub ended_lines : List (List ℕ) → Result (List (List ℕ)) Fault
ended_lines [] = Err Form
ended_lines (l ∷ []) = if length l == 0 then Ok [] else Err Form
ended_lines (l ∷ m ∷ ls) = ended_lines (m ∷ ls) >>= λ ms. Ok (l ∷ ms)

-- the lines of a text, each ended by a line feed
unfoldable pub lines_of : List ℕ → Result (List (List ℕ)) Fault
lines_of text = ended_lines (parts line_feed text)

-- lines of a transcript of a version
unfoldable pub kinds_of : ℕ → List (List ℕ) → Result (List LineKind) Fault
kinds_of version [] = Ok []
kinds_of version (l ∷ ls) = kind_of version (words l) >>= λ k. kinds_of version ls >>= λ ks. Ok (k ∷ ks)

-- the first line tells the version; it is read alike in each
abbrev pub version_of : LineKind → ℕ
version_of (line.First version) = version
version_of _ = 0

-- all lines: the first says how many ends and values may stand in the others
unfoldable pub whole_of : List (List ℕ) → Result (List LineKind) Fault
whole_of [] = Err Form
whole_of (l ∷ ls) = kind_of 0 (words l) >>= λ k. kinds_of (version_of k) (l ∷ ls)

-- ---- what lines tell

-- what the lines from one on tell: steps that belong to an entry before that line, entries, notes and the end
pub record Told : Type 0 where
  pub setting : Setting
  pub steps : List ServiceLine
  pub entries : List Placed
  pub notes : List ScriptNote
  pub last : Last

unfoldable pub full_steps : Happened → List ServiceLine → Result (List ServiceStep) Fault
full_steps what [] = Ok []
full_steps what (s ∷ ss) = full_step what s >>= λ x. full_steps what ss >>= λ xs. Ok (x ∷ xs)

-- an entry, whose steps stand below it
unfoldable pub with_entry : ℕ → ℕ → Happened → Told → Result Told Fault
with_entry stamp kernel what t =
    full_steps what t.steps >>= λ steps.
    Ok (record t {
      steps = [];
      entries = record { kernel = kernel; entry = record { stamp = stamp; what = what; steps = steps } } ∷ t.entries;
    })

-- a line before others
unfoldable pub with_line : LineKind → Told → Result Told Fault
with_line (line.First version) t = Ok (record t { setting = record t.setting { version = version } })
with_line (line.Kernels kernels) t = Ok (record t { setting = record t.setting { kernels = kernels } })
with_line (line.Process p kernel) t = Ok (record t { setting = record t.setting { homes = kernel ∷ t.setting.homes } })
with_line (line.Wire first second) t = Ok (record t { setting = record t.setting { wires = (first, second) ∷ t.setting.wires } })
with_line (line.CallEntry stamp kernel p c) t = with_entry stamp kernel (Asked p c) t
with_line (line.PacketEntry stamp kernel from picture) t = with_entry stamp kernel (Took from picture) t
with_line (line.Service s) t = Ok (record t { steps = s ∷ t.steps })
with_line (line.Note note) t = Ok (record t { notes = note ∷ t.notes })
with_line (line.End last) t = Ok (record t { last = last })

-- lines before others
unfoldable pub with_lines : List LineKind → Told → Result Told Fault
with_lines [] t = Ok t
with_lines (k ∷ ks) t = with_lines ks t >>= with_line k

-- before there is a line
abbrev pub nothing_told : Told
nothing_told =
    record { setting = record { version = 0; kernels = 0; homes = []; wires = [] }; steps = []; entries = []; notes = []; last = Quiet }

-- what a text tells: each line may stand where it stands, and what the line of a step leaves out, the entry above it says
unfoldable pub told_by : List ℕ → Result Told Fault
told_by text = do
  lines ← lines_of text
  kinds ← whole_of lines
  whole ← follows kinds Start >>= is_whole
  with_lines kinds nothing_told
