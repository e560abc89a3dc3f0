-- What is expected in the place of a line.
use Rattle.std.specs.Prelude.{◌≡◌, ◌⊎◌, ℕ, List, [], ◌∷◌, ◌++◌, Option, Some, None, codes}
use Rattle.charlotte_text.specs.Spelling.{number_text}
use Rattle.kernel_world.specs.Run.{AllTaken}
use Rattle.transcript_expected.specs.Texts.{expected_texts, form_texts}
use Rattle.transcript_expected.specs.declared.form.Form.{Form}
use Rattle.transcript_expected.specs.declared.form.Form.TheVariants as form
use Rattle.transcript_items.specs.Given.{next_entries}
use Rattle.transcript_items.specs.Kept.{Kept}
use Rattle.transcript_reading.specs.Order.{Place, Noted}
use Rattle.transcript_shown.specs.Listing.{items_text}

-- alternatives, with a bar between each two
abbrev pub alternatives_text : List (List ℕ) → List ℕ
alternatives_text items = items_text (codes " | ") items

-- by the forms of lines alone: what may stand in a place, where this line stands there
abbrev pub forms_told : Place → ℕ → List ℕ → List ℕ
forms_told place version line = alternatives_text (expected_texts place version line)

-- ---- by what is kept

-- the last line that is true of the packets that are under way
abbrev pub IsTrueForm : Kept → Form → Type 0
IsTrueForm k f = ((f ≡ form.Quiet) × AllTaken k.world) ⊎ ((f ≡ form.Open) × (AllTaken k.world → ⊥))

-- the last line of spent turns
abbrev pub spent_text : Kept → List ℕ
spent_text k = codes "spent K, K below " ++ number_text k.setting.kernels

-- behind a note none but another one and a last line; else also the last line of spent turns, and each entry that may stand next
abbrev pub others_in : Place → Kept → List (List ℕ)
others_in (Noted line) k = []
others_in place k = spent_text k ∷ next_entries k

pub record TellsAlternatives (place : Place) (k : Kept) (told : List ℕ) : Type 0 where
  pub last : Form
  pub true_last : IsTrueForm k last
  pub are : told ≡ alternatives_text (form_texts place form.Note ++ form_texts place last ++ others_in place k)

-- the one line that the kernels give, or the lines that may stand there
abbrev pub TellsGiven : Option (List ℕ) → Place → Kept → List ℕ → Type 0
TellsGiven None place k told = TellsAlternatives place k told
TellsGiven (Some line) place k told = told ≡ line
