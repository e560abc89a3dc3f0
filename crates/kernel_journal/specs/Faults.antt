-- What a replay answers.
use Rattle.std.specs.Prelude.{◌≡◌, ℕ, List, ◌∷◌, ◌++◌, map, Result, Ok, Err}
use Rattle.transcript_lines.specs.declared.last.Last.{Last}
use Rattle.transcript_reading.specs.declared.line.LineKind.{LineKind}
use Rattle.transcript_reader.specs.declared.line.Line.{Line}
use Rattle.transcript_replay.specs.Replay.{IsReplay, IsDifference}
use Rattle.kernel_journal.specs.declared.fault.ReplayFault.{ReplayFault}
use Rattle.kernel_journal.specs.declared.fault.ReplayFault.TheVariants as fault
use Rattle.kernel_journal.specs.declared.fault.Stop.{Stop}
use Rattle.kernel_journal.specs.declared.fault.Stop.TheVariants as stop

abbrev pub kinds_in : List Line → List LineKind
kinds_in lines = map (λ l. l.what) lines

-- these lines are the transcript of a run with this last line
abbrev pub IsReplayOf : List Line → Last → Type 0
IsReplayOf lines last = IsReplay (kinds_in lines) last

-- behind the lines taken, this one is the first that differs, and the fault names it; want of memory comes at any line
abbrev pub IsFaultAt : List LineKind → Line → ReplayFault → Type 0
IsFaultAt taken line (fault.Differs number) = (number ≡ line.number) × IsDifference taken line.what
IsFaultAt taken line fault.NoMemory = Unit {0}

abbrev pub IsStopAt : List LineKind → LineKind → Stop → Type 0
IsStopAt taken kind stop.Differs = IsDifference taken kind
IsStopAt taken kind stop.NoMemory = Unit {0}

-- a line of a list that is the first that differs, with its number
pub record IsFirstDifference (lines : List Line) (number : ℕ) : Type 0 where
  pub before : List Line
  pub line : Line
  pub behind : List Line
  pub there : lines ≡ before ++ line ∷ behind
  pub numbered : number ≡ line.number
  pub differs : IsDifference (kinds_in before) line.what

abbrev pub IsReplayFault : List Line → ReplayFault → Type 0
IsReplayFault lines (fault.Differs number) = IsFirstDifference lines number
IsReplayFault lines fault.NoMemory = Unit {0}

-- the answer is this last line, unless memory ran out
abbrev pub GivesLast : Last → Result Last ReplayFault → Type 0
GivesLast last (Ok answer) = answer ≡ last
GivesLast last (Err (fault.Differs number)) = ⊥
GivesLast last (Err fault.NoMemory) = Unit {0}
