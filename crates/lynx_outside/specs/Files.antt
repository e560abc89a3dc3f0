-- What reads of files answer where the files are told, and what they leave.
use Rattle.std.specs.Prelude.{◌≡◌, ℕ, ◌<◌, ◌≤◌, List, [], ◌∷◌, ◌++◌, length, All, Option, Some, None, Result, Ok, Err}
use Rattle.std.specs.Prelude.{Vec, ⊤, IfSome, IfOk, IsSomeAnd, find, map, option_map, bytes_eq, String, string_bytes}
use Rattle.std.specs.declared.alloc.Global.{Global}
use Rattle.lynx_outside.specs.Faults.{next_count}
use Rattle.lynx_outside.specs.Logged.{Read}
use Rattle.lynx_outside.specs.declared.files.FileAnswer.{FileAnswer}
use Rattle.lynx_outside.specs.declared.files.FileAnswer.TheVariants.{Absent, TooBig, Failed, NoMemory}

-- files by their names, each with its bytes
abbrev pub Listing : Type 0
Listing = List (List ℕ × List ℕ)

-- files as their names and bytes
abbrev pub listing_of : List (String Global × Vec ℕ Global) → Listing
listing_of files = map (λ file. (string_bytes file.0, file.1.items)) files

-- the first bytes that stand under a name
abbrev pub bytes_of : Listing → List ℕ → Option (List ℕ)
bytes_of files name = option_map (λ file. file.1) (find (λ file. bytes_eq file.0 name) files)

-- a source of files: what it holds, where it tells that, how many reads failed, and each read so far
pub record Source : Type 0 where
  pub contents : Option Listing
  pub faults : ℕ
  pub log : List Read

-- the answer of a read, as its bytes
abbrev pub answer_of : Result (Vec ℕ Global) FileAnswer → Result (List ℕ) FileAnswer
answer_of (Ok bytes) = Ok bytes.items
answer_of (Err answer) = Err answer

-- a read of a name, of at most so many bytes, that answered so
abbrev pub read_of : List ℕ → ℕ → Result (Vec ℕ Global) FileAnswer → Read
read_of name most result = record { name = name; most = most; answer = answer_of result }

-- the answer for a file of which at most so many bytes are read, but for a fault and want of memory
abbrev pub IsAnswer : Option (List ℕ) → ℕ → Result (List ℕ) FileAnswer → Type 0
IsAnswer file most (Ok bytes) = file ≡ Some bytes
IsAnswer file most (Err Absent) = file ≡ None
IsAnswer file most (Err TooBig) = IsSomeAnd file (λ bytes. most < length bytes)
IsAnswer file most (Err Failed) = ⊤
IsAnswer file most (Err NoMemory) = ⊤

-- a read answers by the list
abbrev pub Reads : Listing → Read → Type 0
Reads files read = IsAnswer (bytes_of files read.name) read.most read.answer

-- a read gives no more bytes than were asked for
abbrev pub IsWithin : Read → Type 0
IsWithin read = IfOk read.answer (λ bytes. length bytes ≤ read.most)

-- the count of faults after a read that answered so
abbrev pub counted_read : ℕ → Result (List ℕ) FileAnswer → ℕ
counted_read n (Ok bytes) = n
counted_read n (Err Absent) = n
counted_read n (Err TooBig) = n
counted_read n (Err Failed) = next_count n
counted_read n (Err NoMemory) = n

-- the count of faults after these reads in order
abbrev pub counted_reads : ℕ → List Read → ℕ
counted_reads n [] = n
counted_reads n (read ∷ reads) = counted_reads (counted_read n read.answer) reads

-- these reads were made of a source in order, and no others
pub record WereRead (old new : Source) (reads : List Read) : Type 0 where
  -- no read changes the files, nor whether they are told
  pub same : new.contents ≡ old.contents
  pub told : IfSome old.contents (λ files. All (Reads files) reads)
  pub within : All IsWithin reads
  pub counted : new.faults ≡ counted_reads old.faults reads
  pub logged : new.log ≡ old.log ++ reads
