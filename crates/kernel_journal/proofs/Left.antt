-- Lists of which some items were passed.
use Rattle.std.proofs.Common.{◌≡◌, ℕ, ◌+◌, List, [], ◌∷◌, IsTrue, drop, length, leb, ap, sym, ◌∙◌, arith}
use Rattle.std.proofs.Math.ListN.{drop_of_length-le}
use Rattle.std.proofs.lemmas.Bool.{le-leb, leb-true}
use Rattle.std.proofs.lemmas.List.{drop-drop, length-drop}
use Rattle.charlotte_calls.specs.declared.calls.ServiceStep.{ServiceStep}

pub none_left : (shown count : ℕ) (steps now : List ServiceStep) → drop shown steps ≡ now → count ≡ length steps → (IsTrue (leb count shown) → now ≡ []) × (now ≡ [] → IsTrue (leb count shown))
none_left shown count steps now view counted = (
  λ t. sym view ∙ drop_of_length-le steps (omega (arith, counted, leb-true count shown t)),
  λ e. le-leb count shown (omega (arith, counted, ap length (view ∙ e), length-drop shown steps)),
)

pub others_left : (shown : ℕ) (steps : List ServiceStep) (s : ServiceStep) (others : List ServiceStep) → drop shown steps ≡ s ∷ others → drop (shown + 1) steps ≡ others
others_left shown steps s others e = sym (drop-drop 1 shown steps) ∙ ap (drop 1) e
