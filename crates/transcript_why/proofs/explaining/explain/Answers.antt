-- The three lines, each as it was made.
use Rattle.std.proofs.Common.{◌≡◌, ℕ, List, [], ◌∷◌, Vec, Global, map, ap, ◌∙◌}
use Rattle.std.specs.Prelude.{codes}
use Rattle.transcript_lines.specs.Transcript.{line}
use Rattle.transcript_shown.specs.Shown.{labelled}
use Rattle.transcript_why.proofs.explaining.explain.Goals as goal

three : (a b c x y z : List ℕ) → a ≡ x → b ≡ y → c ≡ z → a ∷ b ∷ c ∷ [] ≡ x ∷ y ∷ z ∷ []
three a b c x y z e f g = cc

pub returns : goal.returns
returns g c =
    record {
      expected = c.in_ok-told.told.expected.items;
      kept = c.in_ok-told.told.kept.items;
      three =
          ap (map (λ (l : Vec ℕ Global). l.items)) c.in_ok-lines.ensures.items
          ∙ three c.in_ok-first.first.items c.in_ok-second.second.items c.in_ok-third.third.items _ _ _ c.in_ok-first.ensures
          (c.in_ok-second.ensures ∙ ap (λ (text : List ℕ). line (labelled (codes "expected: ") text)) c.as_slice.ensures.value)
          (c.in_ok-third.ensures ∙ ap (λ (text : List ℕ). line (labelled (codes "kept: ") text)) c.as_slice-2.ensures.value);
      tells = c.in_ok-told.ensures;
    }
