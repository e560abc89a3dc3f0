-- The text in which events are kept: the lines of each, one after the other.
use Rattle.std.specs.Prelude.{ℕ, List, ◌∷◌}
use Rattle.std.specs.List.{flat_map}
use Rattle.kernel_entries.specs.declared.entry.Entry.{Entry}
use Rattle.packed_lines.specs.Lines.{happened_line, step_lines}
use Rattle.packed_lines.specs.Packed.{kept_text}

-- the lines of an entry, but for the stamp and the kernel
abbrev pub kept_lines : Entry → List (List ℕ)
kept_lines e = happened_line e.what ∷ step_lines e.steps

-- the lines of entries
unfoldable pub lines_of : List Entry → List (List ℕ)
lines_of es = flat_map kept_lines es

-- their text as it is kept
unfoldable pub text_of : List Entry → List ℕ
text_of es = kept_text (lines_of es)
