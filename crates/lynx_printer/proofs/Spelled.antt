-- The text of tokens is spelled by them.
use Rattle.std.proofs.Common.{◌≡◌, ℕ, ◌+◌, ◌<◌, ◌^◌, List, [], ◌∷◌, ◌++◌, length, map, pos, ℤ, Some, None, refl, sym, ap, subst, ◌∙◌, append_assoc, arith, inl, inr}
use Rattle.std.specs.List.{AllByRecursion}
use Rattle.std.proofs.lemmas.Bool.{cases_lt, lt-ltb}
use Rattle.std.proofs.lemmas.List.{append-nil}
use Rattle.lynx_lexer.specs.Bytes.{class_of}
use Rattle.lynx_lexer.specs.Pieces.{IsToken, limit_passed, decimal}
use Rattle.lynx_lexer.specs.Source.{Piece, text_of as pieces_text, AreLongest, tokens_of, Spell, AreWithinLimits}
use Rattle.lynx_lexer.specs.declared.class.Class.TheVariants.{Blank}
use Rattle.lynx_lexer.specs.declared.fault.FaultKind.TheVariants.{NumberTooWide}
use Rattle.lynx_lexer.specs.declared.sign.Sign.{Sign}
use Rattle.lynx_lexer.specs.declared.sign.Sign.TheVariants as signs
use Rattle.lynx_lexer.specs.declared.token.Kind.{Kind}
use Rattle.lynx_lexer.specs.declared.token.Kind.TheVariants as kinds
use Rattle.lynx_lexer.specs.declared.token.Token.{Token}
use Rattle.lynx_lexer.proofs.Longest.{longest_blank}
use Rattle.lynx_tree.specs.Grammar.{Mark}
use Rattle.lynx_tree.specs.Printing.{spelling, gap_of, gap_of_sign, token_text, printed, text_of, IsPrintable}
use Rattle.lynx_printer.proofs.Apart.{tokens_apart, number_spelled}

pub printed-kinds : (marks : List Mark) → printed (map (λ t. t.kind) marks) ≡ text_of marks
printed-kinds [] = refl
printed-kinds (t ∷ marks) = ap (λ (y : List ℕ). token_text t.kind ++ y) (printed-kinds marks)

-- what follows a token is a blank or a line feed
gap_of_sign_is_blank : (s : Sign) → class_of (gap_of_sign s) ≡ Blank
unfolding class_of
gap_of_sign_is_blank signs.Semicolon = refl
gap_of_sign_is_blank _ = refl

gap_is_blank : (kind : Kind) → class_of (gap_of kind) ≡ Blank
unfolding class_of
gap_is_blank (kinds.Sign s) = gap_of_sign_is_blank s
gap_is_blank (kinds.Keyword keyword) = refl
gap_is_blank (kinds.Name n) = refl
gap_is_blank (kinds.Number n) = refl
gap_is_blank (kinds.Text inside) = refl

-- a number within the limit
small : (n : ℕ) → limit_passed (kinds.Number (pos n)) ≡ None → n < 2 ^ 64
small n within = elim (cases_lt 9223372036854775807 n) [
  | inl lt ↦ absurd (let passed : limit_passed (kinds.Number (pos n)) ≡ Some NumberTooWide = rw (lt-ltb 9223372036854775807 n lt) refl in cc)
  | inr le ↦ omega arith
]

pos_small : (z : ℤ) (n : ℕ) → z ≡ pos n → limit_passed (kinds.Number z) ≡ None → IsToken (kinds.Number z) (spelling (kinds.Number z))
pos_small z n is within =
    subst (λ (y : ℤ). IsToken (kinds.Number y) (spelling (kinds.Number y))) (sym is) (number_spelled n (small n (subst (λ (y : ℤ). limit_passed (kinds.Number y) ≡ None) is within)))

-- what is a token is spelled so
well_spelled : (kind : Kind) → IsPrintable kind → IsToken kind (spelling kind)
well_spelled (kinds.Keyword keyword) h = refl
well_spelled (kinds.Sign s) h = refl
well_spelled (kinds.Name n) h = subst (λ (t : List ℕ). IsToken (kinds.Name n) t) (sym h.1.0) h.1
well_spelled (kinds.Number z) h = pos_small z (decimal h.0) h.1.1 h.2
well_spelled (kinds.Text inside) h = (h.1.0, refl)

-- each token, and the blank behind it
pieces_of : List Kind → List Piece
pieces_of [] = []
pieces_of (kind ∷ tokens) = record { text = spelling kind; kind = Some kind } ∷ record { text = gap_of kind ∷ []; kind = None } ∷ pieces_of tokens

pieces_text-pieces_of : (tokens : List Kind) → pieces_text (pieces_of tokens) ≡ printed tokens
unfolding pieces_of token_text
pieces_text-pieces_of [] = refl
pieces_text-pieces_of (kind ∷ tokens) =
    ap (λ (y : List ℕ). spelling kind ++ gap_of kind ∷ y) (pieces_text-pieces_of tokens) ∙ sym (append_assoc (spelling kind) (gap_of kind ∷ []) (printed tokens))

each_longest : (tokens : List Kind) → AllByRecursion IsPrintable tokens → AreLongest (pieces_of tokens) []
unfolding pieces_of
each_longest [] h = tt
each_longest (kind ∷ tokens) h = (
  well_spelled kind h.0,
  tokens_apart kind (spelling kind) (pieces_text (pieces_of tokens) ++ []) (gap_of kind) (well_spelled kind h.0) (gap_is_blank kind),
  (inl (gap_of kind, gap_is_blank kind, refl), longest_blank (gap_of kind) (pieces_text (pieces_of tokens) ++ []) (gap_is_blank kind), each_longest tokens h.1),
)

each_within : (at : ℕ) (tokens : List Kind) → AllByRecursion IsPrintable tokens → AreWithinLimits (tokens_of at (pieces_of tokens))
unfolding pieces_of
each_within at [] h = tt
each_within at (kind ∷ tokens) h = (h.0.2, each_within (at + length (spelling kind) + 1) tokens h.1)

kinds_are : (at : ℕ) (tokens : List Kind) → map (λ t. t.kind) (tokens_of at (pieces_of tokens)) ≡ tokens
unfolding pieces_of
kinds_are at [] = refl
kinds_are at (kind ∷ tokens) = ap (λ (ks : List Kind). kind ∷ ks) (kinds_are (at + length (spelling kind) + 1) tokens)

pub spelled : (tokens : List Kind) (text : List ℕ) → AllByRecursion IsPrintable tokens → text ≡ printed tokens → (ts : List Token) × Spell ts text × AreWithinLimits ts × (map (λ t. t.kind) ts ≡ tokens)
spelled tokens text h is =
    (tokens_of 0 (pieces_of tokens), (pieces_of tokens, (is ∙ sym (pieces_text-pieces_of tokens) ∙ sym (append-nil (pieces_text (pieces_of tokens))), each_longest tokens h), refl), each_within 0 tokens h, kinds_are 0 tokens)
