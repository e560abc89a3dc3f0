-- What stands at the front of bytes.
use Rattle.std.specs.Prelude.{◌≡◌, ℕ, ◌<◌, ◌≤◌, List, ◌++◌, length, take, drop, Option, None, IfSome, slice_index, option_map}
use Rattle.lynx_lexer.specs.Bytes.{class_of}
use Rattle.lynx_lexer.specs.Lexemes.{kind_spelled}
use Rattle.lynx_lexer.specs.declared.lexeme.Shape.{Shape}
use Rattle.lynx_lexer.specs.Pieces.{IsPiece, IsLongest, limit_passed}
use Rattle.lynx_lexer.specs.declared.class.Class.{Class}
use Rattle.lynx_lexer.specs.Words.{sign_of}
use Rattle.lynx_lexer.specs.declared.sign.Sign.{Sign}
use Rattle.lynx_lexer.specs.declared.token.Kind.{Kind}

-- the first n bytes are the longest piece, of this kind and within its limit
pub record StandsAt (kind : Option Kind) (n : ℕ) (bytes : List ℕ) : Type 0 where
  pub some : 0 < n
  pub fits : n ≤ length bytes
  pub piece : IsPiece kind (take n bytes)
  pub longest : IsLongest (take n bytes) (drop n bytes)
  pub within : IfSome kind (λ k. limit_passed k ≡ None)

-- the same, of a token of this shape
abbrev pub StandsAs : Option Shape → ℕ → List ℕ → Type 0
StandsAs shape n bytes = StandsAt (option_map (λ s. kind_spelled s (take n bytes)) shape) n bytes

-- there is a first byte, of this class
pub record Begins (class : Class) (bytes : List ℕ) : Type 0 where
  pub some : 0 < length bytes
  pub first : class_of (slice_index bytes 0) ≡ class

-- the sign stands at the front, and no longer one
pub record IsLongestSign (sign : Sign) (bytes : List ℕ) : Type 0 where
  pub stands : (rest : List ℕ) × (bytes ≡ sign_of sign ++ rest)
  pub longest : (other : Sign) (more : List ℕ) → bytes ≡ sign_of other ++ more → length (sign_of other) ≤ length (sign_of sign)
