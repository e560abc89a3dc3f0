-- The three lines that tell why a line of a text is not that of a run.
use Rattle.std.specs.Prelude.{◌≡◌, ◌⊎◌, ℕ, List, [], ◌∷◌, Some, None, codes}
use Rattle.transcript_items.specs.Given.{given}
use Rattle.transcript_items.specs.Kept.{Kept}
use Rattle.transcript_items.specs.Texts.{kept_text}
use Rattle.transcript_lines.specs.Transcript.{line}
use Rattle.transcript_reading.specs.declared.line.LineKind.{LineKind}
use Rattle.transcript_shown.specs.Shown.{labelled}
use Rattle.transcript_shown.specs.Standing.{first_text, line_at}
use Rattle.transcript_why.specs.Before.{CannotFollow, IsKept, line_shown, place_before, setting_before}
use Rattle.transcript_why.specs.Expected.{TellsGiven, forms_told}

-- the line can stand, and the lines before it were followed: the line is told that the kernels give there, or else each that may stand there, and of
-- what is kept then the items that bear on the line
pub record TellsOfKept (bytes : List ℕ) (number : ℕ) (expected kept : List ℕ) : Type 0 where
  pub kind : LineKind
  pub shown : line_shown bytes number ≡ Some kind
  pub keeps : Kept
  pub is_kept : IsKept bytes number keeps
  pub lines : TellsGiven (given keeps kind) (place_before bytes number) keeps expected
  pub items : kept ≡ kept_text keeps kind

-- the line cannot stand, or those before it cannot be followed: what may stand there by the forms is told, and nothing is kept
pub record TellsOfForms (bytes : List ℕ) (number : ℕ) (expected kept : List ℕ) : Type 0 where
  pub none : (line_shown bytes number ≡ None) ⊎ CannotFollow bytes number
  pub forms : expected ≡ forms_told (place_before bytes number) (setting_before bytes number).version (line_at bytes number).text
  pub nothing : kept ≡ codes "nothing"

abbrev pub Tells : List ℕ → ℕ → List ℕ → List ℕ → Type 0
Tells bytes number expected kept = TellsOfKept bytes number expected kept ⊎ TellsOfForms bytes number expected kept

-- the line of a number as it stands, what was expected in its place, and what is kept then
pub record AreWhy (bytes : List ℕ) (number : ℕ) (lines : List (List ℕ)) : Type 0 where
  pub expected : List ℕ
  pub kept : List ℕ
  pub three : lines
      ≡ line (first_text bytes number) ∷ line (labelled (codes "expected: ") expected) ∷ line (labelled (codes "kept: ") kept) ∷ []
  pub tells : Tells bytes number expected kept
