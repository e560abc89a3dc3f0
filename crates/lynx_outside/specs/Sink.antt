-- What puts leave in a sink.
use Rattle.std.specs.Prelude.{◌≡◌, ℕ, List, [], ◌∷◌, ◌++◌, take, Bool, true, false, Option, Result, is_ok, if◌then◌else◌}
use Rattle.std.specs.Io.KnownBytes.{append_known}
use Rattle.lynx_outside.specs.Faults.{next_count}
use Rattle.lynx_outside.specs.Logged.{Put}

-- a sink: the bytes that it holds, where it tells them, how many puts failed, and each put so far
pub record Stream : Type 0 where
  pub held : Option (List ℕ)
  pub faults : ℕ
  pub log : List Put

-- a put of these bytes that ended so
abbrev pub put_of : {T E : Type 0} → List ℕ → Result T E → Put
put_of bytes result = record { bytes = bytes; taken = is_ok result }

-- a put that took all its bytes, and one that failed
abbrev pub taken : List ℕ → Put
taken bytes = record { bytes = bytes; taken = true }

abbrev pub failed : List ℕ → Put
failed bytes = record { bytes = bytes; taken = false }

-- a prefix of the bytes was appended
abbrev pub PutsPart : Option (List ℕ) → Option (List ℕ) → List ℕ → Type 0
PutsPart old new bytes = (n : ℕ) × (new ≡ append_known old (take n bytes))

-- Exactly the bytes are appended where they were taken, else a prefix of them.
abbrev pub Appends : Bool → Option (List ℕ) → Option (List ℕ) → List ℕ → Type 0
Appends true old new bytes = new ≡ append_known old bytes
Appends false old new bytes = PutsPart old new bytes

-- the bytes held after a put
abbrev pub Holds : Option (List ℕ) → Option (List ℕ) → Put → Type 0
Holds old new put = Appends put.taken old new put.bytes

-- the bytes held after these puts in order
abbrev pub Hold : Option (List ℕ) → Option (List ℕ) → List Put → Type 0
Hold old new [] = new ≡ old
Hold old new (put ∷ puts) = (held : Option (List ℕ)) × Holds old held put × Hold held new puts

-- the count of faults after a put
abbrev pub counted_put : ℕ → Put → ℕ
counted_put n put = if put.taken then n else next_count n

-- the count of faults after these puts in order
abbrev pub counted_puts : ℕ → List Put → ℕ
counted_puts n [] = n
counted_puts n (put ∷ puts) = counted_puts (counted_put n put) puts

-- these puts were made to a sink in order, and no others
pub record WerePut (old new : Stream) (puts : List Put) : Type 0 where
  pub held : Hold old.held new.held puts
  pub counted : new.faults ≡ counted_puts old.faults puts
  pub logged : new.log ≡ old.log ++ puts
