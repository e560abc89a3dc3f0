-- The lines of a text, as they stand.
use Rattle.std.specs.Prelude.{ℕ, ◌-◌, if◌then◌else◌, Bool, true, false, List, [], ◌∷◌, ◌++◌, codes, drop}
use Rattle.charlotte_text.specs.Reading.{parts}
use Rattle.charlotte_text.specs.Spelling.{line_feed, number_text}
use Rattle.transcript_shown.specs.Shown.{shown}

-- the text of a line, and whether a line feed ends it
pub record Line : Type 0 where
  pub text : List ℕ
  pub ended : Bool

-- the first of the texts that line feeds separate; behind the last of them stands none
abbrev pub first_line : List (List ℕ) → Line
first_line [] = record { text = []; ended = false }
first_line (text ∷ []) = record { text = text; ended = false }
first_line (text ∷ next ∷ others) = record { text = text; ended = true }

-- the line of a number, from 1; nothing stands there where the text has fewer
abbrev pub line_at : List ℕ → ℕ → Line
line_at bytes number = first_line (drop (number - 1) (parts line_feed bytes))

-- a line as it stands; a mark says that no line feed ends it
abbrev pub standing_text : Line → List ℕ
standing_text l = shown l.text ++ (if l.ended then [] else 92 ∷ codes "end")

-- `line N: `, and the line of this number
abbrev pub first_text : List ℕ → ℕ → List ℕ
first_text bytes number = codes "line " ++ number_text number ++ codes ": " ++ standing_text (line_at bytes number)
