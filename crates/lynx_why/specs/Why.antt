-- What the program finds in the bytes of a transcript, and what it does with its words.
use Rattle.std.specs.Prelude.{◌≡◌, ℕ, List, [], ◌∷◌, Option, Some, None, Ok, Err, codes, string_bytes}
use Rattle.command_words.specs.Words.{Word}
use Rattle.lynx_command.specs.Course.{Course, IsOfFile, IsRefusedAs}
use Rattle.lynx_command.specs.Found.{Found}
use Rattle.lynx_command.specs.Limits.{most_transcript_bytes}
use Rattle.lynx_command.specs.Text.{line}
use Rattle.lynx_command.specs.declared.ending.End.{End}
use Rattle.lynx_command.specs.declared.ending.End.TheVariants.{Done, Spent, Failed}
use Rattle.lynx_command.specs.declared.failure.Failure.{Failure}
use Rattle.lynx_command.specs.declared.failure.Failure.TheVariants.{Usage, NoTranscript, NoMemory}
use Rattle.transcript_audit.specs.Audit.{IsAudited, IsRejected}
use Rattle.transcript_lines.specs.declared.last.Last.{Last}
use Rattle.transcript_why.specs.Why.{AreWhy}

-- the line for a transcript that is accepted
abbrev pub accepted_text : List ℕ
accepted_text = line (codes "yes")

-- `yes` where the bytes are the transcript of a run; else the three lines that tell of the line at which they are not, behind which that is told
abbrev pub IsExplained : List ℕ → List (List ℕ) → End → Type 0
IsExplained bytes lines Done = (last : Last) × IsAudited bytes last × (lines ≡ accepted_text ∷ [])
IsExplained bytes lines Spent = ⊥
IsExplained bytes lines (Failed (NoTranscript number)) = IsRejected bytes number × AreWhy bytes number lines
IsExplained bytes lines (Failed failure) = ⊥

-- these lines, or want of memory, which comes at any text
abbrev pub Explains : List ℕ → Found → Type 0
Explains bytes (Ok output) = IsExplained bytes output.lines output.end
Explains bytes (Err NoMemory) = Unit {0}
Explains bytes (Err failure) = ⊥

-- What words ask for: one word that names a file has that file read, others are told not to be of the form.
abbrev pub Answers : Option Word → Course → Type 0
Answers None course = IsRefusedAs Usage [] course
Answers (Some file) course = IsOfFile Explains most_transcript_bytes (string_bytes file) course
