-- One entry of a journal as its text.
use Rattle.std.specs.Prelude.{◌≡◌, ℕ, List, [], ◌∷◌, ◌++◌, map}
use Rattle.std.specs.List.{flat_map}
use Rattle.charlotte_calls.specs.declared.calls.Call.TheVariants.{Wait}
use Rattle.journal_text.specs.Journal.{placed_at}
use Rattle.transcript_lines.specs.Transcript.{entry_lines, packet_text}
use Rattle.kernel_entries.specs.declared.entry.Entry.{Entry}
use Rattle.kernel_entries.specs.declared.entry.Happened.{Happened}
use Rattle.kernel_entries.specs.declared.entry.Happened.TheVariants.{Asked, Took}
use Rattle.written_journal.specs.Given.{Rest}

-- stands for the first of no entries
abbrev no_entry : Entry
no_entry = record { stamp = 0; what = Asked (record { 0 = 0 }) Wait; steps = [] }

abbrev pub first_entry : List Entry → Entry
first_entry [] = no_entry
first_entry (e ∷ es) = e

-- there is one entry, and no other
abbrev pub IsAlone : List Entry → Type 0
IsAlone entries = entries ≡ first_entry entries ∷ []

-- the text of the packet that was taken, if one was
abbrev pub picture_text : Happened → List ℕ
picture_text (Asked p call) = []
picture_text (Took from picture) = packet_text picture.what

-- the lines that are left, as those of a kernel
abbrev pub lines_left : ℕ → Rest → List (List ℕ)
lines_left kernel rest = rest.lines ++ flat_map (λ e. entry_lines (placed_at kernel e)) rest.entries
