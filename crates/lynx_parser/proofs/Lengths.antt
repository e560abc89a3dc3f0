-- A source has no more tokens than bytes.
use Rattle.std.proofs.Common.{◌≡◌, ℕ, ◌+◌, ◌<◌, ◌≤◌, List, [], ◌∷◌, length, Option, Some, None, ap, ◌∙◌, arith, length-append}
use Rattle.lynx_lexer.specs.Pieces.{IsToken, IsPiece}
use Rattle.lynx_lexer.specs.Source.{Piece, Spell, AreLongest, text_of, tokens_of, token_at}
use Rattle.lynx_lexer.specs.declared.class.Class.TheVariants.{Letter, Digit, Underscore, Other}
use Rattle.lynx_lexer.specs.declared.token.Kind.{Kind}
use Rattle.lynx_lexer.specs.declared.token.Kind.TheVariants as kinds
use Rattle.lynx_lexer.specs.declared.token.Token.{Token}
use Rattle.lynx_lexer.proofs.WordLemmas.{first_class, first_class-word_of, first_class-sign_of}

token_some : (kind : Kind) (text : List ℕ) → IsToken kind text → 0 < length text
token_some kind (b ∷ bs) h = omega arith
token_some (kinds.Keyword k) [] h = absurd (let e : Underscore ≡ Letter = ap first_class h ∙ first_class-word_of k in cc)
token_some (kinds.Sign s) [] h = absurd (let e : Underscore ≡ Other = ap first_class h ∙ first_class-sign_of s in cc)
token_some (kinds.Name n) [] h = absurd (let e : Underscore ≡ Letter = ap first_class h.1.4 ∙ h.1.2 in cc)
token_some (kinds.Number n) [] h = absurd (let e : Underscore ≡ Digit = ap first_class h.0.4 ∙ h.0.2 in cc)
token_some (kinds.Text inside) [] h = absurd cc

one_at_most : (from to : ℕ) (kind : Option Kind) (text : List ℕ) → IsPiece kind text → length (token_at from to kind) ≤ length text
one_at_most from to None text h = omega arith
one_at_most from to (Some kind) text h = token_some kind text h

tokens_at_most : (at : ℕ) (pieces : List Piece) (rest : List ℕ) → AreLongest pieces rest → length (tokens_of at pieces) ≤ length (text_of pieces)
tokens_at_most at [] rest h = omega arith
tokens_at_most at (p ∷ ps) rest h =
    omega (arith, one_at_most at (at + length p.text) p.kind p.text h.0, tokens_at_most (at + length p.text) ps rest h.2, length-append (token_at at (at + length p.text) p.kind) (tokens_of (at + length p.text) ps), length-append p.text (text_of ps))

pub tokens_fit : (tokens : List Token) (source : List ℕ) → Spell tokens source → length tokens ≤ length source
tokens_fit tokens source h =
    omega (arith, tokens_at_most 0 h.0 [] h.1.1, ap length h.1.0, length-append (text_of h.0) [], ap length h.2)
