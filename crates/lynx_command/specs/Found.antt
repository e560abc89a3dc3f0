-- What a command finds: a text, or why there is none.
use Rattle.std.specs.Prelude.{◌≡◌, ℕ, List, [], ◌∷◌, Result, Ok, Err, Vec}
use Rattle.std.specs.declared.alloc.Global.{Global}
use Rattle.lynx_command.specs.Failures.{failure_of_file}
use Rattle.lynx_command.specs.declared.ending.End.{End}
use Rattle.lynx_command.specs.declared.ending.Output.{Output}
use Rattle.lynx_command.specs.declared.failure.Failure.{Failure}
use Rattle.lynx_outside.specs.Logged.{Read}
use Rattle.lynx_outside.specs.declared.files.FileAnswer.{FileAnswer}

-- a text by its lines, and how a command ends that puts it whole
pub record OutputLines : Type 0 where
  pub lines : List (List ℕ)
  pub end : End

-- a text, or why there is none
abbrev pub Found : Type 0
Found = Result OutputLines Failure

-- what code has found, where the function gives the lines of its texts
abbrev pub found_of : {T : Type 0} → (T → List (List ℕ)) → Result (Output T) Failure → Found
found_of lines (Ok output) = Ok (record { lines = lines output.text; end = output.end })
found_of lines (Err failure) = Err failure

-- a read of a name, of at most so many bytes, that answered so
abbrev pub read : List ℕ → ℕ → Result (List ℕ) FileAnswer → Read
read name most answer = record { name = name; most = most; answer = answer }

-- the bytes that a read gave, or its failure
abbrev pub read_found : Result (List ℕ) FileAnswer → Result (List ℕ) Failure
read_found (Ok bytes) = Ok bytes
read_found (Err answer) = Err (failure_of_file answer)

abbrev pub bytes_found : Result (Vec ℕ Global) Failure → Result (List ℕ) Failure
bytes_found (Ok bytes) = Ok bytes.items
bytes_found (Err failure) = Err failure

-- what is found where a read answered so, by the relation that says what is found in bytes
abbrev pub FindsIn : (List ℕ → Found → Type 0) → Result (List ℕ) FileAnswer → Found → Type 0
FindsIn In (Ok bytes) found = In bytes found
FindsIn In (Err answer) found = found ≡ Err (failure_of_file answer)

-- The file of this name is read once, and what is found is found in the bytes that this read answered.
abbrev pub FindsAt : (List ℕ → Found → Type 0) → ℕ → List ℕ → List Read → Found → Type 0
FindsAt In most name reads found =
    (answer : Result (List ℕ) FileAnswer) × (reads ≡ read name most answer ∷ []) × FindsIn In answer found
