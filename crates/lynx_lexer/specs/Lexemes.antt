-- Tokens by their places: what a token says is read from the source.
use Rattle.std.specs.Prelude.{◌≡◌, ℕ, ◌-◌, ◌≤◌, List, [], ◌∷◌, take, drop, length, pos, Option, None, Some}
use Rattle.lynx_lexer.specs.Pieces.{IsToken, decimal, limit_passed}
use Rattle.lynx_lexer.specs.declared.lexeme.Lexeme.{Lexeme}
use Rattle.lynx_lexer.specs.declared.lexeme.Shape.{Shape}
use Rattle.lynx_lexer.specs.declared.lexeme.Shape.TheVariants as shapes
use Rattle.lynx_lexer.specs.declared.token.Kind.{Kind}
use Rattle.lynx_lexer.specs.declared.token.Kind.TheVariants as kinds
use Rattle.lynx_lexer.specs.declared.token.Token.{Token}

-- the kind of token, without what it says
abbrev pub shape_of : Kind → Shape
shape_of (kinds.Keyword keyword) = shapes.Keyword keyword
shape_of (kinds.Sign sign) = shapes.Sign sign
shape_of (kinds.Name name) = shapes.Name
shape_of (kinds.Number number) = shapes.Number
shape_of (kinds.Text inside) = shapes.Text

-- what a token of the shape says that is spelled so
abbrev pub kind_spelled : Shape → List ℕ → Kind
kind_spelled (shapes.Keyword keyword) text = kinds.Keyword keyword
kind_spelled (shapes.Sign sign) text = kinds.Sign sign
kind_spelled shapes.Name text = kinds.Name text
kind_spelled shapes.Number text = kinds.Number (pos (decimal text))
kind_spelled shapes.Text text = kinds.Text (take (length text - 2) (drop 1 text))

-- the bytes of a source from one place up to another
abbrev pub bytes_between : List ℕ → ℕ → ℕ → List ℕ
bytes_between source from to = take (to - from) (drop from source)

-- the token of the source that has this place and shape
abbrev pub token_of : List ℕ → Lexeme → Token
token_of source l = record { kind = kind_spelled l.shape (bytes_between source l.from l.to); from = l.from; to = l.to }

-- the token is spelled where it stands in the source, and passes no limit
pub record StandsIn (source : List ℕ) (t : Token) : Type 0 where
  pub order : t.from ≤ t.to
  pub inside : t.to ≤ length source
  pub spelling : IsToken t.kind (bytes_between source t.from t.to)
  pub within : limit_passed t.kind ≡ None

-- the place and shape of a token
abbrev pub lexeme_of : Token → Lexeme
lexeme_of t = record { shape = shape_of t.kind; from = t.from; to = t.to }

-- those of a piece from one place to another, if it is a token
abbrev pub lexeme_at : ℕ → ℕ → Option Shape → List Lexeme
lexeme_at from to None = []
lexeme_at from to (Some shape) = record { shape = shape; from = from; to = to } ∷ []
