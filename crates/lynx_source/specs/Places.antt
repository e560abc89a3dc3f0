-- Lines and columns of a source.
use Rattle.std.specs.Prelude.{ℕ, ◌+◌, Bool, not, ◌==◌, List, take}
use Rattle.std.specs.List.{count_by, suffix_len}
use Rattle.lynx_source.specs.declared.place.Place.{Place}

-- a line feed ends a line
abbrev pub is_line_feed : ℕ → Bool
is_line_feed b = b == 10

-- how many bytes stand behind the last line feed
abbrev pub behind_line_feed : List ℕ → ℕ
behind_line_feed bytes = suffix_len (λ b. not (is_line_feed b)) bytes

-- the place that follows these bytes: line and column count from 1, and columns count bytes
abbrev pub place_behind : List ℕ → Place
place_behind bytes = record { line = 1 + count_by is_line_feed bytes; column = 1 + behind_line_feed bytes }

-- the place of the byte of this number, counted from 0; behind the last byte, the end of the source
abbrev pub place_of : List ℕ → ℕ → Place
place_of source byte = place_behind (take byte source)
