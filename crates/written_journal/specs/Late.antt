-- The last entry of a journal, while its steps are kept by value.
use Rattle.std.specs.Prelude.{◌≡◌, ◌<◌, ◌+◌, ◌^◌, ◌++◌, ℕ, Option, None, Some, length}
use Rattle.journal_text.specs.Journal.{IsAfterLast}
use Rattle.kernel_entries.specs.declared.entry.Happened.{Happened}
use Rattle.written_journal.specs.Kept.{Happenings}
use Rattle.written_journal.specs.Noted.{done}
use Rattle.written_journal.specs.declared.journal.Late.{Late}

-- what contracts see: where something was noted and is not stored, what is stored as begun is an entry
abbrev pub with_late : Happenings → Option Late → Happenings
with_late stored None = stored
with_late stored (Some late) = record { entries = stored.entries ++ done stored.begun late.stamp late.steps.items; begun = None }

-- what is noted can be stored
pub record CanBeStored (stored : Happenings) (stamp : ℕ) : Type 0 where
  pub begun : (what : Happened) × (stored.begun ≡ Some what)
  pub after_last : IsAfterLast stored.entries stamp
  pub few : length stored.entries + 1 < 2 ^ 32

abbrev pub IsLate : Happenings → Option Late → Type 0
IsLate stored None = Unit {0}
IsLate stored (Some late) = CanBeStored stored late.stamp
