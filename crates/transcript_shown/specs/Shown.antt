-- How bytes are shown: as printable ASCII, so that what is put is one line.
use Rattle.std.specs.Prelude.{ℕ, ◌-◌, ◌/◌, ◌%◌, ◌==◌, ◌&&◌, nat_le, if◌then◌else◌, List, [], ◌∷◌, ◌++◌, length, take, codes}
use Rattle.std.specs.List.{flat_map}
use Rattle.charlotte_text.specs.Spelling.{hex_digit, number_text}

-- a printable byte is itself, but a backslash two, and any other byte `\x` and two hexadecimal digits
abbrev pub shown_byte : ℕ → List ℕ
shown_byte b =
    if b == 92 then 92 ∷ 92 ∷ []
    else if nat_le 32 b && nat_le b 126 then b ∷ []
    else 92 ∷ 120 ∷ hex_digit (b / 16) ∷ hex_digit (b % 16) ∷ []

-- at most 4,096 bytes are shown, and how many more there are
abbrev pub shown : List ℕ → List ℕ
shown text =
    if nat_le (length text) 4096 then flat_map shown_byte text
    else flat_map shown_byte (take 4096 text) ++ 92 ∷ codes "... " ++ number_text (length text - 4096) ++ codes " more"

-- a text as it is shown behind a label
abbrev pub labelled : List ℕ → List ℕ → List ℕ
labelled label text = label ++ shown text
