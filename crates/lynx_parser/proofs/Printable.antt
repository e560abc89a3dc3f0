-- The tokens of a source within the lexer's limits can be printed.
use Rattle.std.proofs.Common.{◌≡◌, ℕ, ◌+◌, List, [], ◌∷◌, ◌++◌, length, Option, Some, None, Result, Ok, Err, sym, subst}
use Rattle.std.specs.Prelude.{IfOk}
use Rattle.std.specs.List.{AllByRecursion}
use Rattle.lynx_lexer.specs.Pieces.{IsPiece, limit_passed}
use Rattle.lynx_lexer.specs.Source.{Piece, Spell, AreWithinLimits, AreLongest, tokens_of, token_at}
use Rattle.lynx_lexer.specs.declared.token.Kind.{Kind}
use Rattle.lynx_lexer.specs.declared.token.Token.{Token}
use Rattle.lynx_tree.specs.Answers.{kinds}
use Rattle.lynx_tree.specs.Printing.{IsPrintable}

abbrev AreLimited : List Token → Type 0
AreLimited tokens = AllByRecursion (λ (t : Token). limit_passed t.kind ≡ None) tokens

abbrev ArePrintable : List Token → Type 0
ArePrintable tokens = AllByRecursion IsPrintable (kinds tokens)

piece_printable : (from to : ℕ) (kind : Option Kind) (text : List ℕ) (more : List Token) → IsPiece kind text → (AreLimited more → ArePrintable more) → AreLimited (token_at from to kind ++ more) → ArePrintable (token_at from to kind ++ more)
piece_printable from to None text more is rest h = rest h
piece_printable from to (Some kind) text more is rest h = ((text, is, h.0), rest h.1)

pieces_printable : (at : ℕ) (pieces : List Piece) (rest : List ℕ) → AreLongest pieces rest → AreLimited (tokens_of at pieces) → ArePrintable (tokens_of at pieces)
pieces_printable at [] rest are h = tt
pieces_printable at (p ∷ ps) rest are h =
    piece_printable at (at + length p.text) p.kind p.text (tokens_of (at + length p.text) ps) are.0 (pieces_printable (at + length p.text) ps rest are.2) h

pub tokens_printable : (tokens : List Token) (source : List ℕ) → Spell tokens source → AreWithinLimits tokens → AllByRecursion IsPrintable (kinds tokens)
tokens_printable tokens source h limits =
    subst (λ (ts : List Token). ArePrintable ts) (sym h.2) (pieces_printable 0 h.0 [] h.1.1 (subst (λ (ts : List Token). AreLimited ts) h.2 limits))

pub ok_then : {A E : Type 0} (r : Result A E) (P Q : A → Type 0) → IfOk r P → ((a : A) → P a → Q a) → IfOk r Q
ok_then (Ok a) P Q h f = f a h
ok_then (Err e) P Q h f = tt
