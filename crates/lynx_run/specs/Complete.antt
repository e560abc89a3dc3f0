-- When a command does the whole of what its words ask for.
use Rattle.std.specs.Prelude.{◌≡◌, ◌⊎◌, ◌<◌, ◌≤◌, ⊤, ℕ, List, [], ◌∷◌, length, map, Some, Result, Ok, Err}
use Rattle.command_words.specs.declared.words.Command.{Command}
use Rattle.command_words.specs.declared.words.Command.TheVariants.{Drive, Check, Code, Audit}
use Rattle.compiler_source.specs.Compiled.{IsCompiledAs}
use Rattle.lynx_command.specs.Course.{Course, Outside}
use Rattle.lynx_command.specs.Ending.{EndsSo}
use Rattle.lynx_command.specs.Failures.{failure_text, status_of}
use Rattle.lynx_command.specs.Found.{OutputLines, read}
use Rattle.lynx_load.specs.Loading.{Loading, Loads, Unloaded}
use Rattle.lynx_outside.specs.Faults.{last_count}
use Rattle.lynx_outside.specs.Files.{Listing, bytes_of}
use Rattle.lynx_outside.specs.Logged.{Read}
use Rattle.lynx_outside.specs.Sink.{taken}
use Rattle.lynx_outside.specs.declared.files.FileAnswer.{FileAnswer}
use Rattle.lynx_outside.specs.declared.files.FileAnswer.TheVariants as answer
use Rattle.lynx_outside.specs.declared.status.Status.{Status}
use Rattle.lynx_outside.specs.declared.status.Status.TheVariants as status
use Rattle.lynx_plan.specs.Reading.{script_of}
use Rattle.lynx_plan.specs.declared.script.Script.{Script}
use Rattle.lynx_run.specs.Commands.{Finds, file_of}
use Rattle.lynx_run.specs.Run.{IsRunOfPlan}
use Rattle.lynx_source.specs.Sources.{IsCheckedAs}
use Rattle.lynx_tree.specs.Trees.{ModuleTree}
use Rattle.run_counts.specs.Summary.{IsSummary}
use Rattle.transcript_audit.specs.Audit.{IsAudited}
use Rattle.transcript_lines.specs.declared.last.Last.{Last}

-- a count of faults stayed as it was, and does not stand at its last value
pub record StaysBelow (old new : ℕ) : Type 0 where
  pub same : new ≡ old
  pub below : old < last_count

-- no call of the files or of the two sinks failed
pub record HasNoFault (old new : Outside) : Type 0 where
  pub files : StaysBelow old.files.faults new.files.faults
  pub out : StaysBelow old.out.faults new.out.faults
  pub err : StaysBelow old.err.faults new.err.faults

-- the bytes break no rule of the command
abbrev pub Obeys : Command → List ℕ → Type 0
Obeys (Drive file) bytes = (script : Script) × (script_of bytes ≡ Ok script)
Obeys (Check file) bytes = (m : ModuleTree) × IsCheckedAs bytes (Ok m)
Obeys (Code file) bytes = (m : ModuleTree) × IsCompiledAs bytes (Ok m)
Obeys (Audit file) bytes = (last : Last) × IsAudited bytes last
Obeys command bytes = ⊥

-- a read that did not find the file missing or too big, and gave bytes that obey the rules if it gave any
abbrev pub IsObeyed : Command → Result (List ℕ) FileAnswer → Type 0
IsObeyed command (Ok bytes) = Obeys command bytes
IsObeyed command (Err answer.Absent) = ⊥
IsObeyed command (Err answer.TooBig) = ⊥
IsObeyed command (Err answer.Failed) = ⊤
IsObeyed command (Err answer.NoMemory) = ⊤

-- each read of a command was such a read
abbrev pub AreObeyed : Command → List Read → Type 0
AreObeyed command reads = (r : Read) → reads ≡ r ∷ [] → IsObeyed command r.answer

-- told files have the file of the command, within its limit, and it obeys the rules
pub record HasFileOf (command : Command) (files : Listing) : Type 0 where
  pub name : List ℕ
  pub most : ℕ
  pub file : file_of command ≡ Some (name, most)
  pub bytes : List ℕ
  pub there : bytes_of files name ≡ Some bytes
  pub within : length bytes ≤ most
  pub obeys : Obeys command bytes

-- the file was read, and out got the whole text that the command finds in it
pub record HasPutAll (command : Command) (course : Course) : Type 0 where
  pub name : List ℕ
  pub most : ℕ
  pub file : file_of command ≡ Some (name, most)
  pub bytes : List ℕ
  pub reads : course.reads ≡ read name most (Ok bytes) ∷ []
  pub output : OutputLines
  pub finds : Finds command bytes (Ok output)
  pub outs : course.outs ≡ map taken output.lines
  pub errs : course.errs ≡ []

-- the status is 0 and the whole text was put, or memory ran out
abbrev pub IsComplete : Command → Course → Status → Type 0
IsComplete command course ended = ((ended ≡ status.Done) × HasPutAll command course) ⊎ (ended ≡ status.NoMemory)

-- ---- the seed of `bench`

-- the status is 0 and out got the whole summary, or memory ran out
abbrev pub IsCompleteBench : ℕ → Course → Status → Type 0
IsCompleteBench seed course ended =
    ((lines : List (List ℕ)) × IsSummary seed lines × (course.outs ≡ map taken lines) × (course.errs ≡ []) × (ended ≡ status.Done)) ⊎ (ended ≡ status.NoMemory)

-- ---- the plan of `run`

-- out got the whole text of a run of the plan, and the status is that of its end
abbrev pub PutsRun : Loading → ℕ → Course → Status → Type 0
PutsRun x turns course ended =
    (output : OutputLines) × IsRunOfPlan x turns output × (course.outs ≡ map taken output.lines) × EndsSo output.end course.name ended course.errs

-- out got nothing, and err the line of the failure, with its status
abbrev pub TellsOf : Unloaded → Course → Status → Type 0
TellsOf fault course ended =
    (course.outs ≡ []) × (ended ≡ status_of fault.failure) × (course.errs ≡ taken (failure_text fault.file fault.failure) ∷ [])

abbrev pub DoesRun : ℕ → Result Loading Unloaded → Course → Status → Type 0
DoesRun turns (Ok x) = PutsRun x turns
DoesRun turns (Err fault) = TellsOf fault

-- what was loaded was run and its whole text put, or why it was not loaded was told, or memory ran out
abbrev pub IsCompleteRun : List ℕ → ℕ → Course → Status → Type 0
IsCompleteRun name turns course ended =
    (found : Result Loading Unloaded) × Loads name course.reads found × (DoesRun turns found course ended ⊎ (ended ≡ status.NoMemory))
