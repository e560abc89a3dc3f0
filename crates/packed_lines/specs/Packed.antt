-- Lines as they are kept: a long one that spells coded bytes is packed.
use Rattle.std.specs.Prelude.{ℕ, Bool, true, false, ◌&&◌, not, nat_le, nat_lt, ◌==◌, ◌+◌}
use Rattle.std.specs.Prelude.{◌*◌, ◌/◌, ◌%◌, if◌then◌else◌, List, [], ◌∷◌, ◌++◌, length, map}
use Rattle.std.specs.List.{concat, list_all}
use Rattle.charlotte_text.specs.Spelling.{hex_digit}
use Rattle.charlotte_text.specs.Reading.{hex_value}
use Rattle.packed_lines.specs.declared.piece.Piece.{Piece}

-- ---- pieces: a byte that stands for itself, or one that is spelled by a code

abbrev pub literal : ℕ → Piece
literal b = record { itself = true; byte = b }

abbrev pub coded : ℕ → Piece
coded b = record { itself = false; byte = b }

-- the mark of a code, and its two upper-case hexadecimal digits
abbrev pub code_text : ℕ → List ℕ
code_text b = 37 ∷ hex_digit (b / 16) ∷ hex_digit (b % 16) ∷ []

abbrev pub piece_text : Piece → List ℕ
piece_text p = if p.itself then p.byte ∷ [] else code_text p.byte

-- what these digits spell, and whether that can be packed
abbrev pub code_value : ℕ → ℕ → ℕ
code_value h l = 16 * hex_value h + hex_value l

abbrev pub is_code : ℕ → ℕ → Bool
is_code h l = nat_lt (hex_value h) 16 && nat_lt (hex_value l) 16 && not (code_value h l == 90)

-- the first piece of a text, and what stands behind it
abbrev pub piece_at : List ℕ → Piece × List ℕ
piece_at [] = (literal 0, [])
piece_at (b ∷ []) = (literal b, [])
piece_at (b ∷ h ∷ []) = (literal b, h ∷ [])
piece_at (b ∷ h ∷ l ∷ rest) = if b == 37 && is_code h l then (coded (code_value h l), rest) else (literal b, h ∷ l ∷ rest)

-- ---- pieces, packed

-- whether a byte of a packed text that has no `Z` before it is itself; behind a `Z` it is the opposite
abbrev pub stands : ℕ → Bool
stands b = nat_le 32 b && nat_le b 126 && not (b == 90)

abbrev pub is_alone : Piece → Bool
is_alone p = if stands p.byte then p.itself else not p.itself

abbrev pub piece_packed : Piece → List ℕ
piece_packed p = if is_alone p then p.byte ∷ [] else 90 ∷ p.byte ∷ []

abbrev pub alone : ℕ → Piece
alone b = record { itself = stands b; byte = b }

abbrev pub behind_escape : ℕ → Piece
behind_escape b = record { itself = not (stands b); byte = b }

-- the first piece of a packed text, and what stands behind it
abbrev pub packed_piece_at : List ℕ → Piece × List ℕ
packed_piece_at [] = (literal 0, [])
packed_piece_at (b ∷ []) = (alone b, [])
packed_piece_at (b ∷ c ∷ rest) = if b == 90 then (behind_escape c, rest) else (alone b, c ∷ rest)

-- ---- texts

unfoldable pub packed : List ℕ → List ℕ
packed [] = []
packed (b ∷ []) = piece_packed (literal b) ++ []
packed (b ∷ h ∷ []) = piece_packed (literal b) ++ packed (h ∷ [])
packed (b ∷ h ∷ l ∷ rest) =
    if b == 37 && is_code h l then piece_packed (coded (code_value h l)) ++ packed rest
    else piece_packed (literal b) ++ packed (h ∷ l ∷ rest)

unfoldable pub unpacked : List ℕ → List ℕ
unpacked [] = []
unpacked (b ∷ []) = piece_text (alone b) ++ []
unpacked (b ∷ c ∷ rest) = if b == 90 then piece_text (behind_escape c) ++ unpacked rest else piece_text (alone b) ++ unpacked (c ∷ rest)

-- ---- lines

-- not the mark of a code
abbrev pub is_unmarked : ℕ → Bool
is_unmarked b = not (b == 37)

-- whether a line is packed: it is long, and has the mark
unfoldable pub packs : List ℕ → Bool
packs text = nat_le 512 (length text) && not (list_all is_unmarked text)

-- a line as it is kept
unfoldable pub kept : List ℕ → List ℕ
kept text = if packs text then packed text else text

-- its text, by whether it is packed
abbrev pub given : Bool → List ℕ → List ℕ
given is_packed text = if is_packed then unpacked text else text

-- lines as they are kept, one after the other
abbrev pub kept_text : List (List ℕ) → List ℕ
kept_text lines = concat (map kept lines)

-- what is noted of a line: twice how long it is as it is kept, and one more where it is packed
abbrev pub note_of : Bool → List ℕ → ℕ
note_of is_packed text = 2 * length text + (if is_packed then 1 else 0)

abbrev pub line_note : List ℕ → ℕ
line_note text = note_of (packs text) (kept text)
