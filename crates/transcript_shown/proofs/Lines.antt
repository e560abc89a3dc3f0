-- The first of the lines that are left.
use Rattle.std.proofs.Common.{◌≡◌, ℕ, List, ◌∷◌, true, eqb, ap, refl, ◌∙◌}
use Rattle.charlotte_text.specs.Reading.{parts}
use Rattle.charlotte_text.proofs.Parts.{first_part}
use Rattle.transcript_shown.specs.Standing.{Line, first_line}

-- what stands behind a line feed has a part
pub first_ended : (text bytes rest : List ℕ) → parts 10 bytes ≡ text ∷ parts 10 rest → first_line (parts 10 bytes) ≡ record { text = text; ended = true }
first_ended text bytes rest e = let first = first_part (λ b. eqb b 10) rest in ap first_line e ∙ more (parts 10 rest) first.0 first.1 first.2
  where
    more : (ps : List (List ℕ)) (t : List ℕ) (ts : List (List ℕ)) → ps ≡ t ∷ ts → first_line (text ∷ ps) ≡ record { text = text; ended = true }
    more ps t ts e = rw e refl
