-- Texts by their lines.
use Rattle.std.specs.Prelude.{◌≡◌, ◌==◌, ℕ, List, [], ◌∷◌, ◌++◌, map, Bool, true, false, if◌then◌else◌, Result, Ok, Err}
use Rattle.std.specs.List.{onto_first}
use Rattle.lynx_command.specs.declared.putting.PutFault.{PutFault}
use Rattle.lynx_command.specs.declared.putting.PutFault.TheVariants.{Failed, NoMemory}
use Rattle.lynx_outside.specs.Logged.{Put}
use Rattle.lynx_outside.specs.Sink.{taken, failed}

-- a line is ended by a line feed
abbrev pub line : List ℕ → List ℕ
line text = text ++ 10 ∷ []

-- the lines of a text, each up to its line feed and with it; what stands behind the last line feed, if anything does, is one more
abbrev pub lines_of : List ℕ → List (List ℕ)
lines_of [] = []
lines_of (b ∷ bs) = if b == 10 then (b ∷ []) ∷ lines_of bs else onto_first b (lines_of bs)

-- The first line that was left is given, or none was left.
abbrev pub IsNextLine : Bool → List (List ℕ) → List (List ℕ) → List ℕ → Type 0
IsNextLine true old new line = old ≡ line ∷ new
IsNextLine false old new line = old ≡ []

-- one put for each of some first lines, and a put of the next one that failed
pub record StopsAtPut (lines : List (List ℕ)) (puts : List Put) : Type 0 where
  pub before : List (List ℕ)
  pub line : List ℕ
  pub behind : List (List ℕ)
  pub lines_are : lines ≡ before ++ line ∷ behind
  pub puts_are : puts ≡ map taken before ++ failed line ∷ []

-- one put for each of some first lines
pub record StopsBetween (lines : List (List ℕ)) (puts : List Put) : Type 0 where
  pub before : List (List ℕ)
  pub behind : List (List ℕ)
  pub lines_are : lines ≡ before ++ behind
  pub puts_are : puts ≡ map taken before

-- The lines are put in order, one put a line. After a put that failed, and where memory lacks, no more is put.
abbrev pub PutsLines : {T : Type 0} → List (List ℕ) → Result T PutFault → List Put → Type 0
PutsLines lines (Ok _) puts = puts ≡ map taken lines
PutsLines lines (Err Failed) puts = StopsAtPut lines puts
PutsLines lines (Err NoMemory) puts = StopsBetween lines puts
