-- What is answered of a line, and the words of a refusal.
use Rattle.std.specs.Prelude.{◌≡◌, ℕ, ℤ, pos, List, [], ◌∷◌, ◌++◌, length, take, drop, Some, None, Result, Ok, Err}
use Rattle.history_checker.specs.Reading.{HasRead, Reads, answer_of}
use Rattle.history_checker.specs.declared.checker.Checker.{Checker}
use Rattle.history_run.specs.declared.fault.HistoryFault.{HistoryFault}
use Rattle.history_run.specs.declared.fault.HistoryFault.TheVariants as fault

-- the status of the answer of a line
abbrev pub status_of : Result (Unit {0}) HistoryFault → ℤ
status_of (Ok x) = pos 0
status_of (Err fault.Form) = pos 4
status_of (Err fault.NotAllowed) = pos 4
status_of (Err fault.NoMemory) = pos 7

-- no line was told
pub record IsFresh (c : Checker) : Type 0 where
  pub read : HasRead [] c
  pub refusal : c.refusal ≡ None
  pub why : c.why.items ≡ []

-- a line more was told, with this status; once one was refused nothing changes
pub record IsTold (old : Checker) (line : List ℕ) (new : Checker) (status : ℤ) : Type 0 where
  pub read : (lines : List (List ℕ)) → HasRead lines old → Reads (lines ++ line ∷ []) new (answer_of new.refusal)
  pub answer : status ≡ status_of (answer_of new.refusal)
  pub still : (why : HistoryFault) → old.refusal ≡ Some why → new ≡ old

-- the length of the words of the refusal
abbrev pub IsLength : Checker → ℕ → Type 0
IsLength c n = n ≡ length c.why.items

-- as much of words as there is room for, and what lay behind them
abbrev pub put_in : List ℕ → List ℕ → List ℕ
put_in words room = take (length room) words ++ drop (length words) room

-- the words of the refusal were put
pub record IsWhy (c : Checker) (old new : List ℕ) (n : ℕ) : Type 0 where
  pub length_is : IsLength c n
  pub room : new ≡ put_in c.why.items old
