-- What a reader of words or fields gives.
use Rattle.std.specs.Prelude.{◌≡◌, ℕ, List, Result, Ok, Err}
use Rattle.charlotte_calls.specs.declared.names.EndId.{EndId}
use Rattle.charlotte_packets.specs.declared.picture.PictureWhat.{PictureWhat}
use Rattle.charlotte_text.specs.declared.fault.Fault.{Fault}
use Rattle.charlotte_text.specs.Reading.{◌>>=◌, ended}
use Rattle.transcript_reading.specs.Forms.{only_of, wanted_of, end_number_of}

-- the first of them says this, and these are left
abbrev pub Takes : {X : Type 0} → Result (X × List (List ℕ)) Fault → Result X Fault → List (List ℕ) → Type 0
Takes read (Ok x) left = read ≡ Ok (x, left)
Takes read (Err e) left = read ≡ Err e

-- nothing is left, and this was read
abbrev pub ended_as : {X : Type 0} → X → List (List ℕ) → Result X Fault
ended_as x ws = ended ws >>= λ u. Ok x

-- the packet of the only word
abbrev pub only_as : {X : Type 0} → (X → PictureWhat) → (List ℕ → Result X Fault) → List (List ℕ) → Result PictureWhat Fault
only_as make read ws = only_of read ws >>= λ x. Ok (make x)

-- the packet of an end and a number
abbrev pub end_number_as : (EndId → ℕ → PictureWhat) → List (List ℕ) → Result PictureWhat Fault
end_number_as make ws = end_number_of ws >>= λ x. Ok (make x.0 x.1)

-- the packet of an end and three numbers
abbrev pub wanted_as : (EndId → ℕ → ℕ → ℕ → PictureWhat) → List (List ℕ) → Result PictureWhat Fault
wanted_as make ws = wanted_of ws >>= λ x. Ok (make x.0 x.1 x.2 x.3)
