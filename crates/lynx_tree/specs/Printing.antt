-- The text of a list of tokens.
use Rattle.std.specs.Prelude.{◌≡◌, ℕ, List, [], ◌∷◌, ◌++◌, None}
use Rattle.std.specs.Fmt.{signed_decimal}
use Rattle.lynx_lexer.specs.Words.{word_of, sign_of}
use Rattle.lynx_lexer.specs.Pieces.{IsToken, limit_passed}
use Rattle.lynx_lexer.specs.declared.sign.Sign.{Sign}
use Rattle.lynx_lexer.specs.declared.sign.Sign.TheVariants as signs
use Rattle.lynx_lexer.specs.declared.token.Kind.{Kind}
use Rattle.lynx_lexer.specs.declared.token.Kind.TheVariants as kinds
use Rattle.lynx_tree.specs.Grammar.{Mark}

-- how a token of the kind is spelled
abbrev pub spelling : Kind → List ℕ
spelling (kinds.Keyword keyword) = word_of keyword
spelling (kinds.Sign sign) = sign_of sign
spelling (kinds.Name n) = n
spelling (kinds.Number n) = signed_decimal n
spelling (kinds.Text inside) = 39 ∷ inside ++ 39 ∷ []

-- what follows a sign: a line feed behind `;` and behind the `.` at the end, else a blank
abbrev pub gap_of_sign : Sign → ℕ
gap_of_sign signs.Semicolon = 10
gap_of_sign signs.Dot = 10
gap_of_sign _ = 32

abbrev pub gap_of : Kind → ℕ
gap_of (kinds.Sign sign) = gap_of_sign sign
gap_of (kinds.Keyword keyword) = 32
gap_of (kinds.Name n) = 32
gap_of (kinds.Number n) = 32
gap_of (kinds.Text inside) = 32

unfoldable pub token_text : Kind → List ℕ
token_text kind = spelling kind ++ gap_of kind ∷ []

-- each token and what follows it
abbrev pub printed : List Kind → List ℕ
printed [] = []
printed (kind ∷ tokens) = token_text kind ++ printed tokens

abbrev pub text_of : List Mark → List ℕ
text_of [] = []
text_of (t ∷ marks) = token_text t.kind ++ text_of marks

-- the bytes gained what the tokens print
abbrev pub Prints : List ℕ → List ℕ → List Mark → Type 0
Prints old new marks = new ≡ old ++ text_of marks

-- the kind is one of a token within the lexer's limits
abbrev pub IsPrintable : Kind → Type 0
IsPrintable kind = (text : List ℕ) × IsToken kind text × (limit_passed kind ≡ None)
