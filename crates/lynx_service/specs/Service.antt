-- What the program finds in the bytes of a history, and what it does with its words.
use Rattle.std.specs.Prelude.{◌≡◌, ◌⊎◌, ℕ, List, [], ◌∷◌, ◌++◌, Bool, true, false, Option, Some, None, Result, Ok, Err, codes, string_bytes}
use Rattle.charlotte_text.specs.Spelling.{number_text}
use Rattle.command_words.specs.Words.{Word}
use Rattle.history_run.specs.Runs.{IsAnswer}
use Rattle.history_run.specs.declared.fault.TextFault.TheVariants as fault
use Rattle.history_text.specs.Lines.{told_by}
use Rattle.lynx_outside.specs.Files.{Source, WereRead}
use Rattle.lynx_outside.specs.Logged.{Read, Put}
use Rattle.lynx_outside.specs.Sink.{Stream, WerePut, taken, failed}
use Rattle.lynx_outside.specs.declared.files.FileAnswer.{FileAnswer}
use Rattle.lynx_outside.specs.declared.files.FileAnswer.TheVariants as answer
use Rattle.lynx_outside.specs.declared.status.Status.{Status}
use Rattle.lynx_outside.specs.declared.status.Status.TheVariants as status
use Rattle.lynx_service.specs.declared.verdict.Verdict.{Verdict}
use Rattle.lynx_service.specs.declared.verdict.Verdict.TheVariants as verdict

-- the most bytes of a history
abbrev pub most_bytes : ℕ
most_bytes = 67108864

-- ---- what is found

-- `Yes` where the text is one run of the service, `Form` and `No` with the first line that has no form in its place or whose step is not allowed there;
-- want of memory comes at any text
abbrev pub Finds : List ℕ → Verdict → Type 0
Finds bytes verdict.Yes = IsAnswer {X = Unit {0}} (told_by bytes) (Ok (tt {0}))
Finds bytes (verdict.Form line) = IsAnswer {X = Unit {0}} (told_by bytes) (Err (fault.Form line))
Finds bytes (verdict.No line why) = IsAnswer {X = Unit {0}} (told_by bytes) (Err (fault.NotAllowed line))
Finds bytes verdict.NoMemory = Unit {0}
Finds bytes verdict.Usage = ⊥
Finds bytes verdict.Absent = ⊥
Finds bytes verdict.ReadFault = ⊥
Finds bytes verdict.TooBig = ⊥

-- why a file was not read
abbrev pub failed_by : FileAnswer → Verdict
failed_by answer.Absent = verdict.Absent
failed_by answer.TooBig = verdict.TooBig
failed_by answer.Failed = verdict.ReadFault
failed_by answer.NoMemory = verdict.NoMemory

-- what is found where a read answered so
abbrev pub FindsIn : Result (List ℕ) FileAnswer → Verdict → Type 0
FindsIn (Ok bytes) found = Finds bytes found
FindsIn (Err answer) found = found ≡ failed_by answer

-- ---- how it is told

abbrev pub is_yes : Verdict → Bool
is_yes verdict.Yes = true
is_yes (verdict.Form line) = false
is_yes (verdict.No line why) = false
is_yes verdict.Usage = false
is_yes verdict.Absent = false
is_yes verdict.ReadFault = false
is_yes verdict.TooBig = false
is_yes verdict.NoMemory = false

abbrev pub status_of : Verdict → Status
status_of verdict.Yes = status.Done
status_of (verdict.Form line) = status.Refused
status_of (verdict.No line why) = status.Refused
status_of verdict.Usage = status.Usage
status_of verdict.Absent = status.NoFile
status_of verdict.ReadFault = status.ReadFault
status_of verdict.TooBig = status.TooBig
status_of verdict.NoMemory = status.NoMemory

-- a line of a file
abbrev pub line_place : List ℕ → ℕ → List ℕ
line_place name n = name ++ codes ":" ++ number_text n ++ codes ": "

-- the line of a verdict, where the file has this name
abbrev pub verdict_text : List ℕ → Verdict → List ℕ
verdict_text name verdict.Yes = codes "yes\n"
verdict_text name (verdict.Form line) = line_place name line ++ codes "form: no history has this line there\n"
verdict_text name (verdict.No line why) = line_place name line ++ codes "no: " ++ why.items ++ codes "\n"
verdict_text name verdict.Usage = codes "lynx: usage\n"
verdict_text name verdict.Absent = codes "lynx: " ++ name ++ codes ": absent\n"
verdict_text name verdict.ReadFault = codes "lynx: " ++ name ++ codes ": read fault\n"
verdict_text name verdict.TooBig = codes "lynx: " ++ name ++ codes ": too big\n"
verdict_text name verdict.NoMemory = codes "lynx: no memory\n"

-- A line gets one put: the status is this one, and 3 where the put failed.
abbrev pub PutsSo : List ℕ → Status → Status → List Put → Type 0
PutsSo text wanted ended puts = ((ended ≡ wanted) × (puts ≡ taken text ∷ [])) ⊎ ((ended ≡ status.WriteFault) × (puts ≡ failed text ∷ []))

-- A verdict is told by its line. Where there is no memory for the line, that is told.
abbrev pub Tells : List ℕ → Verdict → Status → List Put → Type 0
Tells name found ended puts =
    PutsSo (verdict_text name found) (status_of found) ended puts
    ⊎ PutsSo (verdict_text name verdict.NoMemory) (status_of verdict.NoMemory) ended puts

abbrev pub EndsSo : Bool → List ℕ → Verdict → Status → List Put → List Put → Type 0
EndsSo true name found ended outs errs = PutsSo (codes "yes\n") status.Done ended outs × (errs ≡ [])
EndsSo false name found ended outs errs = (outs ≡ []) × Tells name found ended errs

-- `yes` is told on out, all else on err
abbrev pub Ends : List ℕ → Verdict → Status → List Put → List Put → Type 0
Ends name found ended outs errs = EndsSo (is_yes found) name found ended outs errs

-- ---- what the program does

-- its reads, what it found, the name in the line that tells it, and its puts on out and on err
pub record Course : Type 0 where
  pub reads : List Read
  pub found : Verdict
  pub name : List ℕ
  pub outs : List Put
  pub errs : List Put

-- the files and the two sinks at one moment
pub record Outside : Type 0 where
  pub files : Source
  pub out : Stream
  pub err : Stream

abbrev pub outside : Source → Stream → Stream → Outside
outside files out err = record { files = files; out = out; err = err }

-- The program took this course, and ended with this status.
pub record Took (course : Course) (ended : Status) (old new : Outside) : Type 0 where
  pub reads : WereRead old.files new.files course.reads
  pub outs : WerePut old.out new.out course.outs
  pub errs : WerePut old.err new.err course.errs
  pub ends : Ends course.name course.found ended course.outs course.errs

-- a read of a history that answered so
abbrev pub read_at : List ℕ → Result (List ℕ) FileAnswer → Read
read_at name answer = record { name = name; most = most_bytes; answer = answer }

-- The one file of this name was read, and this was found in the bytes that this read answered.
pub record IsOfFile (name : List ℕ) (course : Course) : Type 0 where
  pub named : course.name ≡ name
  pub answer : Result (List ℕ) FileAnswer
  pub reads : course.reads ≡ read_at name answer ∷ []
  pub found : FindsIn answer course.found

-- Nothing was read, and the words are told not to be of the form.
pub record IsUsage (course : Course) : Type 0 where
  pub reads : course.reads ≡ []
  pub found : course.found ≡ verdict.Usage

-- What words ask for: one word that names a file has that file read, others are told not to be of the form.
abbrev pub Answers : Option Word → Course → Type 0
Answers None course = IsUsage course
Answers (Some file) course = IsOfFile (string_bytes file) course
