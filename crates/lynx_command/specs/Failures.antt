-- Why a command was not done: the line on err and the status.
use Rattle.std.specs.Prelude.{ℕ, List, ◌++◌, codes}
use Rattle.charlotte_text.specs.Spelling.{number_text}
use Rattle.lynx_command.specs.Text.{line}
use Rattle.lynx_command.specs.declared.failure.Failure.{Failure}
use Rattle.lynx_command.specs.declared.failure.Failure.TheVariants.{Usage, ReadFault, Absent, TooBig, Lex, Syntax, Deep, Rule}
use Rattle.lynx_command.specs.declared.failure.Failure.TheVariants.{CodeTooLong, Plan, Script, NoTranscript, Unbuilt, NoMemory}
use Rattle.lynx_outside.specs.declared.files.FileAnswer.{FileAnswer}
use Rattle.lynx_outside.specs.declared.files.FileAnswer.TheVariants as answer
use Rattle.lynx_outside.specs.declared.status.Status.{Status}
use Rattle.lynx_outside.specs.declared.status.Status.TheVariants as status
use Rattle.lynx_outside.specs.declared.words.WordsFault.{WordsFault}
use Rattle.lynx_outside.specs.declared.words.WordsFault.TheVariants as words
use Rattle.lynx_plan.specs.declared.fault.PlanFault.{PlanFault}
use Rattle.lynx_plan.specs.declared.fault.PlanFault.TheVariants as fault
use Rattle.lynx_source.specs.declared.fault.SourceFault.{SourceFault}
use Rattle.lynx_source.specs.declared.fault.SourceFault.TheVariants as source
use Rattle.lynx_source.specs.declared.place.Place.{Place}

-- the status of a failure
abbrev pub status_of : Failure → Status
status_of Usage = status.Usage
status_of ReadFault = status.ReadFault
status_of Absent = status.NoFile
status_of TooBig = status.TooBig
status_of (Lex at number) = status.Refused
status_of (Syntax at) = status.Refused
status_of (Deep at) = status.Refused
status_of (Rule at number) = status.Refused
status_of CodeTooLong = status.Refused
status_of (Plan n rule) = status.Refused
status_of (Script n rule) = status.Refused
status_of (NoTranscript n) = status.Refused
status_of Unbuilt = status.Refused
status_of NoMemory = status.NoMemory

-- why a file was not read
abbrev pub failure_of_file : FileAnswer → Failure
failure_of_file answer.Absent = Absent
failure_of_file answer.TooBig = TooBig
failure_of_file answer.Failed = ReadFault
failure_of_file answer.NoMemory = NoMemory

-- why the words were not read
abbrev pub failure_of_words : WordsFault → Failure
failure_of_words words.NotText = Usage
failure_of_words words.NoMemory = NoMemory

-- why a script was not read
abbrev pub failure_of_script : PlanFault → Failure
failure_of_script (fault.BadPlan n rule) = Script n rule
failure_of_script fault.NoMemory = NoMemory

-- why a plan was not read
abbrev pub failure_of_plan : PlanFault → Failure
failure_of_plan (fault.BadPlan n rule) = Plan n rule
failure_of_plan fault.NoMemory = NoMemory

-- why a module was not read
abbrev pub failure_of_source : SourceFault → Failure
failure_of_source (source.Lex at number) = Lex at number
failure_of_source (source.Syntax at) = Syntax at
failure_of_source (source.Deep at) = Deep at
failure_of_source (source.Rule at number) = Rule at number
failure_of_source source.CodeTooLong = CodeTooLong
failure_of_source source.NoMemory = NoMemory

-- a line of a file
abbrev pub line_place : List ℕ → ℕ → List ℕ
line_place name n = name ++ codes ":" ++ number_text n ++ codes ": "

-- a place in a file
abbrev pub place_text : List ℕ → Place → List ℕ
place_text name at = name ++ codes ":" ++ number_text at.line ++ codes ":" ++ number_text at.column ++ codes ": "

-- its line on err, where the file that was read, or the command that is not built, has this name
abbrev pub failure_text : List ℕ → Failure → List ℕ
failure_text name Usage = line (codes "lynx: usage")
failure_text name ReadFault = line (codes "lynx: " ++ name ++ codes ": read fault")
failure_text name Absent = line (codes "lynx: " ++ name ++ codes ": absent")
failure_text name TooBig = line (codes "lynx: " ++ name ++ codes ": too big")
failure_text name (Lex at number) = line (place_text name at ++ codes "lex " ++ number_text number)
failure_text name (Syntax at) = line (place_text name at ++ codes "syntax")
failure_text name (Deep at) = line (place_text name at ++ codes "deep")
failure_text name (Rule at number) = line (place_text name at ++ codes "rule " ++ number_text number)
failure_text name CodeTooLong = line (name ++ codes ":1:1: code too long")
failure_text name (Plan n rule) = line (line_place name n ++ codes "plan " ++ number_text rule)
failure_text name (Script n rule) = line (line_place name n ++ codes "script " ++ number_text rule)
failure_text name (NoTranscript n) = line (line_place name n ++ codes "no")
failure_text name Unbuilt = line (codes "lynx: " ++ name ++ codes ": not built")
failure_text name NoMemory = line (codes "lynx: no memory")
