-- What the program does with its words.
use Rattle.std.specs.Prelude.{ℕ, List, [], Option, Some, None, codes, string_bytes}
use Rattle.lynx_command.specs.Course.{Course, IsOfFile, IsRefusedAs}
use Rattle.lynx_command.specs.Found.{Found}
use Rattle.lynx_command.specs.Limits.{most_bytes, most_transcript_bytes}
use Rattle.lynx_command.specs.declared.failure.Failure.TheVariants.{Usage, Unbuilt}
use Rattle.lynx_run.specs.Audit.{Audits}
use Rattle.lynx_run.specs.Bench.{Benches}
use Rattle.lynx_run.specs.Check.{Checks}
use Rattle.lynx_run.specs.Code.{Codes}
use Rattle.lynx_run.specs.Drive.{Drives}
use Rattle.lynx_run.specs.Run.{RunsPlan}
use Rattle.command_words.specs.declared.words.Command.{Command}
use Rattle.command_words.specs.declared.words.Command.TheVariants.{Drive, Check, Code, Run, Bench, Audit, Snapshot}

-- the first word of a command
abbrev pub command_name : Command → List ℕ
command_name (Drive file) = codes "drive"
command_name (Check file) = codes "check"
command_name (Code file) = codes "code"
command_name (Run plan serial turns) = codes "run"
command_name (Bench seed) = codes "bench"
command_name (Audit file) = codes "audit"
command_name (Snapshot plan at serial) = codes "snapshot"

-- the one file that a command reads, and the most bytes of it; `run` reads more than one, `bench` and a command that is not built yet none
abbrev pub file_of : Command → Option (List ℕ × ℕ)
file_of (Drive file) = Some (string_bytes file, most_bytes)
file_of (Check file) = Some (string_bytes file, most_bytes)
file_of (Code file) = Some (string_bytes file, most_bytes)
file_of (Audit file) = Some (string_bytes file, most_transcript_bytes)
file_of command = None

-- what a command finds in the bytes of its file
abbrev pub Finds : Command → List ℕ → Found → Type 0
Finds (Drive file) = Drives
Finds (Check file) = Checks
Finds (Code file) = Codes
Finds (Audit file) = Audits
Finds command = λ bytes found. ⊥

-- A command reads its file, and finds what is in it; one without a file is refused by its name.
abbrev pub Performs : Command → Option (List ℕ × ℕ) → Course → Type 0
Performs command (Some file) course = IsOfFile (Finds command) file.1 file.0 course
Performs command None course = IsRefusedAs Unbuilt (command_name command) course

-- What words ask for: a command is performed, and words that are not of the form are told so. A plan is run whichever way was asked for
abbrev pub Answers : Option Command → Course → Type 0
Answers None course = IsRefusedAs Usage [] course
Answers (Some (Run plan serial turns)) course = RunsPlan (string_bytes plan) turns course
Answers (Some (Bench seed)) course = Benches seed course
Answers (Some command) course = Performs command (file_of command) course
