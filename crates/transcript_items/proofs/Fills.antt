-- One byte of a text that is filled.
use Rattle.std.proofs.Common.{◌≡◌, ℕ, true, false, cond, eqb, List, [], ◌∷◌, ◌++◌, drop, ap, append_assoc, refl, subst, sym, ◌∙◌}
use Rattle.charlotte_text.specs.Spelling.{number_text}
use Rattle.transcript_items.specs.Texts.{filled, first_number}

fills-number : (bs numbers : List ℕ) → filled (35 ∷ bs) numbers ≡ number_text (first_number numbers) ++ filled bs (drop 1 numbers)
unfolding filled
fills-number bs numbers = refl

fills-byte : (b : ℕ) (bs numbers : List ℕ) → eqb b 35 ≡ false → filled (b ∷ bs) numbers ≡ b ∷ filled bs numbers
unfolding filled
fills-byte b bs numbers e = ap (λ x. cond x (number_text (first_number numbers) ++ filled bs (drop 1 numbers)) (b ∷ filled bs numbers)) e

pub fills-nothing : (numbers : List ℕ) → filled [] numbers ≡ []
unfolding filled
fills-nothing numbers = refl

-- a number in the place of a `#`
pub number-more : (b : ℕ) (rest numbers others old new : List ℕ) → b ≡ 35 → new ≡ old ++ number_text (first_number numbers) → others ≡ drop 1 numbers → new ++ filled rest others ≡ old ++ filled (b ∷ rest) numbers
number-more b rest numbers others old new is text left =
    ap (λ (t : List ℕ). t ++ filled rest others) text ∙ append_assoc old (number_text (first_number numbers)) (filled rest others)
    ∙ ap (λ (ns : List ℕ). old ++ (number_text (first_number numbers) ++ filled rest ns)) left ∙ ap (λ (t : List ℕ). old ++ t) (sym (fills-number rest numbers))
    ∙ ap (λ (n : ℕ). old ++ filled (n ∷ rest) numbers) (sym is)

-- any other byte
pub byte-more : (b : ℕ) (rest numbers old new : List ℕ) → eqb b 35 ≡ false → new ≡ old ++ b ∷ [] → new ++ filled rest numbers ≡ old ++ filled (b ∷ rest) numbers
byte-more b rest numbers old new other text =
    ap (λ (t : List ℕ). t ++ filled rest numbers) text ∙ append_assoc old (b ∷ []) (filled rest numbers) ∙ ap (λ (t : List ℕ). old ++ t) (sym (fills-byte b rest numbers other))

-- two parts, one behind the other
pub both-parts : (a b old between new : List ℕ) → between ≡ old ++ a → new ≡ between ++ b → new ≡ old ++ (a ++ b)
both-parts a b old between new first second = second ∙ ap (λ (t : List ℕ). t ++ b) first ∙ append_assoc old a b
