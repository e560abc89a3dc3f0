-- How a command ends that found a text, or why there is none: its status, and its puts on out and on err.
use Rattle.std.specs.Prelude.{◌≡◌, ◌⊎◌, ℕ, List, [], ◌∷◌, map, Ok, Err}
use Rattle.lynx_command.specs.Failures.{status_of, failure_text}
use Rattle.lynx_command.specs.Found.{Found, OutputLines}
use Rattle.lynx_command.specs.Text.{StopsAtPut, StopsBetween}
use Rattle.lynx_command.specs.declared.ending.End.{End}
use Rattle.lynx_command.specs.declared.ending.End.TheVariants.{Done, Spent, Failed}
use Rattle.lynx_command.specs.declared.failure.Failure.{Failure}
use Rattle.lynx_command.specs.declared.failure.Failure.TheVariants.{NoMemory}
use Rattle.lynx_outside.specs.Logged.{Put}
use Rattle.lynx_outside.specs.Sink.{taken, failed}
use Rattle.lynx_outside.specs.declared.status.Status.{Status}
use Rattle.lynx_outside.specs.declared.status.Status.TheVariants as status

-- A line gets one put: the status is this one, and 3 where the put failed.
abbrev pub PutsText : Status → List ℕ → Status → List Put → Type 0
PutsText s text ended errs =
    ((ended ≡ s) × (errs ≡ taken text ∷ []))
    ⊎ ((ended ≡ status.WriteFault) × (errs ≡ failed text ∷ []))

-- that is the status of the failure
abbrev pub PutsFailure : Failure → List ℕ → Status → List Put → Type 0
PutsFailure failure text ended errs = PutsText (status_of failure) text ended errs

-- A failure is told by its line. Where there is no memory for the line, want of memory is told.
abbrev pub Tells : List ℕ → Failure → Status → List Put → Type 0
Tells name failure ended errs =
    PutsFailure failure (failure_text name failure) ended errs
    ⊎ PutsFailure NoMemory (failure_text name NoMemory) ended errs

-- behind a text that was put whole nothing is told, or a failure is
abbrev pub EndsSo : End → List ℕ → Status → List Put → Type 0
EndsSo Done name ended errs = (ended ≡ status.Done) × (errs ≡ [])
EndsSo Spent name ended errs = (ended ≡ status.Spent) × (errs ≡ [])
EndsSo (Failed failure) name ended errs = Tells name failure ended errs

-- A text is put line by line: all of it, then the command ends as it says; up to a put that failed, and then nothing is put
-- anywhere; or up to a line for which memory lacks, and then that is told.
abbrev pub EndsText : List ℕ → OutputLines → Status → List Put → List Put → Type 0
EndsText name output ended outs errs =
    ((outs ≡ map taken output.lines) × EndsSo output.end name ended errs)
    ⊎ ((ended ≡ status.WriteFault) × StopsAtPut output.lines outs × (errs ≡ []))
    ⊎ (StopsBetween output.lines outs × Tells name NoMemory ended errs)

-- Out gets the text alone, err the line of a failure alone. Where no text was found out gets nothing.
abbrev pub Ends : List ℕ → Found → Status → List Put → List Put → Type 0
Ends name (Ok output) ended outs errs = EndsText name output ended outs errs
Ends name (Err failure) ended outs errs = (outs ≡ []) × Tells name failure ended errs
