-- Journals whose lines are given one after the other, and what is left of each.
use Rattle.std.specs.Prelude.{◌≡◌, ◌≢◌, ℕ, ◌+◌, List, [], length, take, drop, slice_index_or}
use Rattle.kernel_entries.specs.Order.{of_kernel}
use Rattle.kernel_entries.specs.declared.entry.Entry.{Entry}
use Rattle.kernel_entries.specs.declared.entry.Placed.{Placed}
use Rattle.written_journal.specs.Kept.{Happenings}
use Rattle.written_journal.specs.Lines.{lines_of}
use Rattle.packed_lines.specs.Packed.{kept_text}
use Rattle.written_journal.specs.declared.reader.Place.{Place}

-- what is left of a journal: lines of the entry whose first line is given, and the entries behind it
pub record Rest : Type 0 where
  pub lines : List (List ℕ)
  pub entries : List Entry

-- all of a journal
abbrev pub all_of : Happenings → Rest
all_of j = record { lines = []; entries = j.entries }

-- what is left behind a place
abbrev pub rest_behind : List Entry → Place → Rest
rest_behind es p = record { lines = take p.left (drop p.lines (lines_of es)); entries = drop p.events es }

-- a place between two lines
pub record IsPlace (es : List Entry) (p : Place) : Type 0 where
  pub upto : p.lines + p.left ≡ length (lines_of (take p.events es))
  pub long : p.bytes ≡ length (kept_text (take p.lines (lines_of es)))

-- what is left of the journal of a kernel
abbrev pub rest_at : List Rest → ℕ → Rest
rest_at rests k = slice_index_or rests k (record { lines = []; entries = [] })

-- these entries are left of the journals, and only of the one before them, which is of this kernel, are lines
pub record AreLeft (rests : List Rest) (kernel : ℕ) (placed : List Placed) : Type 0 where
  pub entries : (k : ℕ) → of_kernel k placed ≡ (rest_at rests k).entries
  pub others : (k : ℕ) → k ≢ kernel → (rest_at rests k).lines ≡ []

-- no line of these entries is given
pub record AreAll (rests : List Rest) (placed : List Placed) : Type 0 where
  pub entries : (k : ℕ) → of_kernel k placed ≡ (rest_at rests k).entries
  pub lines : (k : ℕ) → (rest_at rests k).lines ≡ []
