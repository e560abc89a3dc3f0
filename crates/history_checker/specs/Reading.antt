-- What a checker has read, and what is answered of it.
use Rattle.std.specs.Prelude.{◌≡◌, ◌⊎◌, ℕ, Bool, false, not, ◌==◌, List, length, ◌++◌, Option, Some, None, Result, Ok, Err}
use Rattle.std.specs.List.{list_all}
use Rattle.charlotte_text.specs.Reading.{parts}
use Rattle.charlotte_text.specs.Spelling.{line_feed}
use Rattle.history_checker.specs.declared.checker.Checker.{Checker}
use Rattle.history_run.specs.Follow.{IsAt, IsFaultOf, fault_at}
use Rattle.history_run.specs.Runs.{IsAnswer}
use Rattle.history_run.specs.declared.fault.HistoryFault.{HistoryFault}
use Rattle.history_run.specs.declared.fault.HistoryFault.TheVariants as fault
use Rattle.history_run.specs.declared.history.History.{History}
use Rattle.history_text.specs.Lines.{missing_at, told_by}

-- no line feed
abbrev pub is_one_line : List ℕ → Bool
is_one_line text = list_all (λ b. not (b == line_feed)) text

-- the line stood that says what the text is
abbrev pub HasBegun : History → Type 0
HasBegun h = (n : ℕ) → missing_at n h.draft.stage ≡ None

-- a line of a text is refused
abbrev pub IsWrong : List ℕ → HistoryFault → Type 0
IsWrong bytes why = (n : ℕ) × IsAnswer {X = Unit {0}} (told_by bytes) (Err (fault_at n why))

-- of a text that begins with these lines the history is behind them; or one of them is refused, whatever stands behind them
abbrev pub IsSoFar : Option HistoryFault → History → List (List ℕ) → List ℕ → List (List ℕ) → Type 0
IsSoFar None h lines bytes rest = IsAt bytes (length lines) rest h
IsSoFar (Some why) h lines bytes rest = IsWrong bytes why

-- a checker has read these lines: it is so of each text that begins with them
pub record HasRead (lines : List (List ℕ)) (c : Checker) : Type 0 where
  pub so_far : (bytes : List ℕ) (rest : List (List ℕ)) → parts line_feed bytes ≡ lines ++ rest → IsSoFar c.refusal c.history lines bytes rest

-- what is answered of a text: that it is one run of the service, once it has begun; or the fault of a line
abbrev pub IsAnswerOf : History → List ℕ → Result (Unit {0}) HistoryFault → Type 0
IsAnswerOf h bytes (Ok x) = HasBegun h → IsAnswer {X = Unit {0}} (told_by bytes) (Ok (tt {0}))
IsAnswerOf h bytes (Err why) = IsWrong bytes why

-- it is so of each text with these lines
pub record Answers (lines : List (List ℕ)) (c : Checker) (answer : Result (Unit {0}) HistoryFault) : Type 0 where
  pub all : (bytes : List ℕ) → parts line_feed bytes ≡ lines → IsAnswerOf c.history bytes answer

-- a line more was read and answered
pub record Reads (lines : List (List ℕ)) (c : Checker) (answer : Result (Unit {0}) HistoryFault) : Type 0 where
  pub read : HasRead lines c
  pub answers : Answers lines c answer

-- the answer of a line, by the refusal that is kept behind it
abbrev pub answer_of : Option HistoryFault → Result (Unit {0}) HistoryFault
answer_of None = Ok (tt {0})
answer_of (Some why) = Err why

-- why a line is refused: by its form or its step, or for a line feed in it
abbrev pub IsRefused : List ℕ → History → HistoryFault → Type 0
IsRefused text h why = IsFaultOf text h why ⊎ ((why ≡ fault.Form) × (is_one_line text ≡ false))

-- the refusal that is kept is this, or want of memory
abbrev pub IsFor : HistoryFault → Option HistoryFault → Type 0
IsFor why None = ⊥
IsFor why (Some told) = (told ≡ why) ⊎ (told ≡ fault.NoMemory)
