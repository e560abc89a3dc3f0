-- What stands over the host: its own sources and writers.
use Rattle.std.specs.Prelude.{◌≡◌, ◌≢◌, ℕ, List, [], ◌∷◌, ◌++◌, take, Option, Some, None, Result, Ok, Err, MatchOption, MatchResult, IfSome}
use Rattle.std.specs.Io.KnownBytes.{Appends}
use Rattle.std.specs.IoError.{error_kind}
use Rattle.std.specs.declared.io.Error.{Error}
use Rattle.std.specs.declared.io.ErrorKind.{ErrorKind}
use Rattle.std.specs.declared.io.ErrorKind.TheVariants.{NotFound, OutOfMemory, Interrupted}
use Rattle.lynx_outside.specs.Files.{IsAnswer}
use Rattle.lynx_outside.specs.Logged.{Read}
use Rattle.lynx_outside.specs.System.{SystemCall, Opening, Writing}
use Rattle.lynx_outside.specs.declared.system.WriteAnswer.{WriteAnswer}
use Rattle.lynx_outside.specs.declared.system.WriteAnswer.TheVariants as answer
use Rattle.lynx_outside.specs.declared.files.FileAnswer.{FileAnswer}
use Rattle.lynx_outside.specs.declared.files.FileAnswer.TheVariants.{Absent, Failed, NoMemory}

-- a part of the host, how many calls over it failed, and the log of all calls
pub record Hosted (H E : Type 0) : Type 0 where
  pub host : H
  pub faults : ℕ
  pub log : List E

-- a part of the host, and each call of the system so far
pub record Asking (H : Type 0) : Type 0 where
  pub host : H
  pub calls : List SystemCall

-- what an error of the system means for a read
abbrev pub refused_by : ErrorKind → FileAnswer
refused_by NotFound = Absent
refused_by OutOfMemory = NoMemory
refused_by _ = Failed

-- why a file was not opened, if it was not
abbrev pub refusal_of : {F : Type 0} → Result F Error → Option FileAnswer
refusal_of (Ok file) = None
refusal_of (Err error) = Some (refused_by (error_kind error))

-- an opening of a file of this name that answered so
abbrev pub opening_of : {F : Type 0} → List ℕ → Result F Error → SystemCall
opening_of name result = Opening name (refusal_of result)

-- what an open file answers, of which at most so many bytes are read: where it tells what it holds, by that, and never that it is not there
abbrev pub ReadsWhole : Option (List ℕ) → ℕ → Result (List ℕ) FileAnswer → Type 0
ReadsWhole held most answer = (answer ≢ Err Absent) × IfSome held (λ bytes. IsAnswer (Some bytes) most answer)

-- The system was asked once, to open the file of that name. The answer is why it did not, or that of the open file.
abbrev pub ReadsOne : List SystemCall → List SystemCall → Option (List ℕ) → Read → Type 0
ReadsOne old new held read =
    (refusal : Option FileAnswer) × (new ≡ old ++ Opening read.name refusal ∷ [])
    × MatchOption refusal (ReadsWhole held read.most read.answer) (λ why. read.answer ≡ Err why)

-- what an error of the system means for a write
abbrev pub failed_by : ErrorKind → WriteAnswer
failed_by Interrupted = answer.Interrupted
failed_by _ = answer.Failed

-- what a write answered
abbrev pub answer_of_write : Result ℕ Error → WriteAnswer
answer_of_write (Ok taken) = answer.Took taken
answer_of_write (Err error) = failed_by (error_kind error)

-- a write of these bytes that answered so
abbrev pub writing_of : List ℕ → Result ℕ Error → SystemCall
writing_of bytes result = Writing bytes (answer_of_write result)

-- Ok hands exactly the bytes to the writer, an Err a prefix of them.
abbrev pub Writes : {T E : Type 0} → Option (List ℕ) → Option (List ℕ) → List ℕ → Result T E → Type 0
Writes old new bytes result = MatchResult result (λ _. Appends old new bytes) (λ _. (n : ℕ) × Appends old new (take n bytes))
