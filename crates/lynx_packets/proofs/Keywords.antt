-- A word is a keyword exactly where it is the one of its slot.
use Rattle.std.proofs.Common.{◌≡◌, ◌≢◌, ℕ, Bool, true, false, List, Option, Some, None, refl, sym, ap, ◌∙◌}
use Rattle.std.specs.Prelude.{IfSome, IfNone, is_some}
use Rattle.std.proofs.lemmas.Slice.Eq.{bytes_eq-Decides}
use Rattle.lynx_lexer.specs.declared.keyword.Keyword.{Keyword}
use Rattle.lynx_lexer.specs.Words.{word_of}
use Rattle.lynx_lexer.specs.Slots.{slot_of, keyword_at}
use Rattle.lynx_lexer.proofs.WordLemmas.{found_at}
use Rattle.lynx_packets.specs.Spots.{keyword_spelled, is_keyword}

pub keyword_is : (k : Keyword) (word : List ℕ) → word ≡ word_of k → is_keyword word ≡ true
keyword_is k word is =
    let at : keyword_at (slot_of word) ≡ Some k = ap (λ (w : List ℕ). keyword_at (slot_of w)) is ∙ found_at k in
    ap (keyword_spelled word) at ∙ (bytes_eq-Decides word (word_of k)).1 is

spells : (word : List ℕ) (o : Option Keyword) → keyword_spelled word o ≡ true → (k : Keyword) × (word ≡ word_of k)
spells word None e = absurd cc
spells word (Some k) e = (k, (bytes_eq-Decides word (word_of k)).0 e)

pub keyword_of : (word : List ℕ) → is_keyword word ≡ true → (k : Keyword) × (word ≡ word_of k)
keyword_of word e = spells word (keyword_at (slot_of word)) e

not_spelled : (word : List ℕ) (b : Bool) → is_keyword word ≡ b → ((k : Keyword) → word ≢ word_of k) → false ≡ b
not_spelled word true e none = absurd (none (keyword_of word e).0 (keyword_of word e).1)
not_spelled word false e none = refl

pub keyword_told : (word : List ℕ) (o : Option Keyword) → IfSome o (λ k. word ≡ word_of k) → IfNone o ((k : Keyword) → word ≢ word_of k) → is_some o ≡ is_keyword word
keyword_told word (Some k) found none = sym (keyword_is k word found)
keyword_told word None found none = not_spelled word (is_keyword word) refl none
