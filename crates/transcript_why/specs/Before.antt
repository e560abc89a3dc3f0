-- The lines before the one of a number, and what is kept behind them.
use Rattle.std.specs.Prelude.{◌⊎◌, ℕ, ◌-◌, ◌<◌, zero, suc, List, [], ◌∷◌, Option, Some, None, Result, Ok, Err}
use Rattle.charlotte_calls.specs.Setting.{IsValid}
use Rattle.charlotte_calls.specs.declared.setting.Setting.{Setting}
use Rattle.transcript_items.specs.Kept.{Kept, FollowAll, Refuses, kept_start}
use Rattle.transcript_reader.specs.Lines.{Unread, next_line, unread}
use Rattle.transcript_reader.specs.declared.line.Line.{Line}
use Rattle.transcript_reading.specs.Order.{Place, Entry, Noted, Over}
use Rattle.transcript_reading.specs.declared.line.LineKind.{LineKind}
use Rattle.transcript_replay.specs.Header.{tell_all, untold}

-- what a line that comes next shows, if it can stand there
abbrev pub shown_next : Result (Option (Line × Unread)) ℕ → Option LineKind
shown_next (Ok (Some x)) = Some x.0.what
shown_next (Ok None) = None
shown_next (Err number) = None

-- that line before those behind it
abbrev pub with_next : (Unread → List LineKind × Unread) → Unread → Result (Option (Line × Unread)) ℕ → List LineKind × Unread
with_next others u (Ok (Some x)) = (x.0.what ∷ (others x.1).0, (others x.1).1)
with_next others u (Ok None) = ([], u)
with_next others u (Err number) = ([], u)

-- the first so many lines, as far as they can stand, and what is left unread behind them
unfoldable pub first_lines : ℕ → Unread → List LineKind × Unread
first_lines zero u = ([], u)
first_lines (suc n) u = with_next (first_lines n) u (next_line u)

abbrev pub lines_before : List ℕ → ℕ → List LineKind × Unread
lines_before bytes number = first_lines (number - 1) (unread bytes)

-- no line of the header stands behind this place
abbrev pub IsBehindHeader : Place → Type 0
IsBehindHeader Entry = Unit {0}
IsBehindHeader (Noted line) = Unit {0}
IsBehindHeader Over = Unit {0}
IsBehindHeader _ = ⊥

-- what the lines of the header among them tell
abbrev pub setting_before : List ℕ → ℕ → Setting
setting_before bytes number = tell_all (lines_before bytes number).0 untold

-- the place behind them
abbrev pub place_before : List ℕ → ℕ → Place
place_before bytes number = (lines_before bytes number).1.place

-- what the line of a number shows, if it can stand there
abbrev pub line_shown : List ℕ → ℕ → Option LineKind
line_shown bytes number = shown_next (next_line (lines_before bytes number).1)

-- ---- the kernels and the link service beside them

-- this is kept behind the lines before the one of a number
pub record IsKept (bytes : List ℕ) (number : ℕ) (k : Kept) : Type 0 where
  pub valid : IsValid (setting_before bytes number)
  pub followed : FollowAll (kept_start (setting_before bytes number)) (lines_before bytes number).0 k

-- what comes next can not be followed
abbrev pub Halts : Kept → Option LineKind → Type 0
Halts k None = Unit {0}
Halts k (Some kind) = Refuses k kind

-- less than so many lines were followed, and the next one can not be
pub record Stops (lines : ℕ) (u : Unread) (old : Kept) : Type 0 where
  pub after : ℕ
  pub fewer : after < lines
  pub kept : Kept
  pub followed : FollowAll old (first_lines after u).0 kept
  pub halts : Halts kept (shown_next (next_line (first_lines after u).1))

-- no kernels and no link service follow the lines before the one of a number
abbrev pub CannotFollow : List ℕ → ℕ → Type 0
CannotFollow bytes number =
    (IsValid (setting_before bytes number) → ⊥) ⊎ Stops (number - 1) (unread bytes) (kept_start (setting_before bytes number))
