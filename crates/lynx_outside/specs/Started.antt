-- What the words are with which the program was started, where they are told.
use Rattle.std.specs.Prelude.{◌≡◌, ℕ, List, take, Option, Some, None, Result, Ok, Err, ⊤}
use Rattle.std.specs.declared.env.FillError.{FillError}
use Rattle.std.specs.declared.env.FillError.TheVariants.{NotPresent, TooLong}

-- an answer on a word: the word stands in front of the buffer, there is none of that number, or it has no room there
abbrev pub TellsWord : Option (List ℕ) → List ℕ → Result ℕ FillError → Type 0
TellsWord word buffer (Ok length) = word ≡ Some (take length buffer)
TellsWord word buffer (Err NotPresent) = word ≡ None
TellsWord word buffer (Err TooLong) = ⊤
