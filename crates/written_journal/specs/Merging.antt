-- Merging journals: what is left of each.
use Rattle.std.specs.Prelude.{◌≡◌, ℕ, ◌+◌, ◌<◌, ◌^◌, List, Option, IfSome, drop, map}
use Rattle.journal_text.specs.Heads.{first_stamp}
use Rattle.kernel_entries.specs.declared.entry.Entry.{Entry}
use Rattle.written_journal.specs.Kept.{Happenings}

-- the entries of journals
abbrev pub journals_of : List Happenings → List (List Entry)
journals_of journals = map (λ j. j.entries) journals

-- of the entries of a journal this many are placed, and the first of the others has this stamp
pub record IsQueue (es : List Entry) (placed : ℕ) (stamp : Option ℕ) : Type 0 where
  pub first : stamp ≡ first_stamp (drop placed es)
  -- one more can be counted
  pub within : IfSome stamp (λ _. placed + 1 < 2 ^ 64)
