-- What an audit of a text answers.
use Rattle.std.specs.Prelude.{◌≡◌, ℕ, List, [], ◌∷◌, ◌++◌, None, Ok, Err}
use Rattle.charlotte_calls.specs.declared.setting.Setting.{Setting}
use Rattle.kernel_entries.specs.declared.entry.Placed.{Placed}
use Rattle.kernel_world.specs.Run.{IsRecord}
use Rattle.kernel_world.specs.World.{Event, after, start}
use Rattle.transcript_lines.specs.TranscriptText.{IsTranscript}
use Rattle.transcript_lines.specs.declared.last.Last.{Last}
use Rattle.transcript_lines.specs.declared.last.ScriptNote.{ScriptNote}
use Rattle.transcript_replay.specs.Replay.{IsTrueLast}
use Rattle.kernel_journal.specs.At.{IsAt}
use Rattle.kernel_journal.specs.Expected.{HasDiffered}
use Rattle.kernel_journal.specs.Faults.{IsFaultAt, IsFirstDifference, kinds_in}
use Rattle.kernel_journal.specs.declared.fault.ReplayFault.{ReplayFault}
use Rattle.kernel_journal.specs.declared.fault.ReplayFault.TheVariants as replay
use Rattle.kernel_journal.specs.declared.lines.Replay.{Replay}
use Rattle.transcript_audit.specs.declared.fault.AuditFault.{AuditFault}
use Rattle.transcript_audit.specs.declared.fault.AuditFault.TheVariants.{NoTranscript, NoMemory}
use Rattle.transcript_audit.specs.declared.halt.Halt.{Halt}
use Rattle.transcript_audit.specs.declared.halt.Halt.TheVariants as halt
use Rattle.kernel_journal.specs.Law.{IsLawfulReplay}
use Rattle.transcript_reader.specs.Lines.{Unread, lines_left, lines_read, next_line, with_all}
use Rattle.transcript_reader.specs.Text.{AreLines, IsBadLine}
use Rattle.transcript_reader.specs.declared.fault.LineFault.{LineFault}
use Rattle.transcript_reader.specs.declared.fault.LineFault.TheVariants as reading
use Rattle.transcript_reader.specs.declared.line.Line.{Line}
use Rattle.transcript_reading.specs.declared.line.LineKind.{LineKind}

-- The text is the transcript of a run with this last line, whose entries show one lawful run of the link service.
pub record IsAudited (bytes : List ℕ) (last : Last) : Type 0 where
  pub lines : List Line
  pub are : AreLines bytes lines
  pub run : IsLawfulReplay (kinds_in lines) last

-- the text is the transcript of a run in the order of a merge, and its last line is true of the world that is left
pub record IsRunTranscript (bytes : List ℕ) (last : Last) : Type 0 where
  pub setting : Setting
  pub events : List Event
  pub merged : List Placed
  pub recorded : IsRecord setting events merged
  pub notes : List ScriptNote
  pub told : IsTranscript bytes setting merged notes last
  pub true_last : IsTrueLast setting (after (start setting) events) last

-- each line of a text can stand where it stands, and this one is the first that differs from what the kernels give there
pub record IsDifferent (bytes : List ℕ) (number : ℕ) : Type 0 where
  pub lines : List Line
  pub are : AreLines bytes lines
  pub first : IsFirstDifference lines number

-- the line at which a text is not the transcript of a run: a line that cannot stand comes before one that differs
pub data IsRejected (bytes : List ℕ) (number : ℕ) : Type 0 where
  Bad : IsBadLine bytes number → IsRejected bytes number
  Different : IsDifferent bytes number → IsRejected bytes number

-- The fault names that line. Want of memory comes at any text.
abbrev pub IsFaultOf : List ℕ → AuditFault → Type 0
IsFaultOf bytes (NoTranscript number) = IsRejected bytes number
IsFaultOf bytes NoMemory = Unit {0}

-- ---- inside

-- all lines were read and taken before
pub record HasReadAll (taken : List LineKind) (old : Unread) (r : Replay) : Type 0 where
  pub none : next_line old ≡ Ok None
  pub at : IsAt taken old.place r

-- the next line was read and differs, or cannot stand and was not read
abbrev pub HasHalted : List LineKind → Unread → Unread → Halt → Type 0
HasHalted taken old new (halt.Bad number) = next_line old ≡ Err number
HasHalted taken old new (halt.Differs number) = HasDiffered taken old new number
HasHalted taken old new halt.NoMemory = Unit {0}

-- the line that was read last differs from what the kernels give, and no line before it; these are left
pub record DiffersBehind (bytes : List ℕ) (left : Unread) (number : ℕ) : Type 0 where
  pub before : List Line
  pub line : Line
  pub rest : with_all (before ++ line ∷ []) (lines_left left) ≡ lines_read bytes
  pub differs : IsFaultAt (kinds_in before) line (replay.Differs number)

-- why the replay of a text halted, of which this is left
abbrev pub IsHaltBehind : List ℕ → Unread → Halt → Type 0
IsHaltBehind bytes left (halt.Bad number) = IsBadLine bytes number
IsHaltBehind bytes left (halt.Differs number) = DiffersBehind bytes left number
IsHaltBehind bytes left halt.NoMemory = Unit {0}

-- each line that is left can stand where it stands
abbrev pub AreRest : Unread → Type 0
AreRest left = (lines : List Line) × (lines_left left ≡ Ok lines)

-- the line of the fault cannot
abbrev pub IsBadRest : Unread → LineFault → Type 0
IsBadRest left (reading.BadLine number) = lines_left left ≡ Err number
IsBadRest left reading.NoMemory = Unit {0}

abbrev pub fault_of_lines : LineFault → AuditFault
fault_of_lines (reading.BadLine number) = NoTranscript number
fault_of_lines reading.NoMemory = NoMemory

abbrev pub halt_of_lines : LineFault → Halt
halt_of_lines (reading.BadLine number) = halt.Bad number
halt_of_lines reading.NoMemory = halt.NoMemory

abbrev pub halt_of_replay : ReplayFault → Halt
halt_of_replay (replay.Differs number) = halt.Differs number
halt_of_replay replay.NoMemory = halt.NoMemory
