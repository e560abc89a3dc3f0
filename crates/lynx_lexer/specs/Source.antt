-- How tokens spell a source, and what its first fault is.
use Rattle.std.specs.Prelude.{◌≡◌, ◌≢◌, ℕ, ◌+◌, IsTrue, IsFalse, List, [], ◌∷◌, ◌++◌, length, Option, Some, None, ⊤}
use Rattle.std.specs.List.{list_all, flat_map, AllByRecursion}
use Rattle.lynx_lexer.specs.Pieces.{IsPiece, IsToken, IsLongest, is_text_byte, limit_passed}
use Rattle.lynx_lexer.specs.declared.fault.FaultKind.{FaultKind}
use Rattle.lynx_lexer.specs.declared.fault.FaultKind.TheVariants.{BadByte, OpenText, NumberTooWide, TextTooLong, NameTooLong}
use Rattle.lynx_lexer.specs.declared.token.Kind.{Kind}
use Rattle.lynx_lexer.specs.declared.token.Token.{Token}

-- bytes of a source, with the kind of token that they spell, or None where they are a separator
pub record Piece : Type 0 where
  pub text : List ℕ
  pub kind : Option Kind

-- the bytes of pieces, one after another
abbrev pub text_of : List Piece → List ℕ
text_of pieces = flat_map (λ p. p.text) pieces

-- each piece is the longest that may stand at its place, where the rest follows the last
abbrev pub AreLongest : List Piece → List ℕ → Type 0
AreLongest [] rest = ⊤
AreLongest (p ∷ ps) rest = IsPiece p.kind p.text × IsLongest p.text (text_of ps ++ rest) × AreLongest ps rest

-- the token that a piece is, from one place to another, if it is one
abbrev pub token_at : ℕ → ℕ → Option Kind → List Token
token_at from to None = []
token_at from to (Some kind) = record { kind = kind; from = from; to = to } ∷ []

-- the tokens among pieces that begin at a place
abbrev pub tokens_of : ℕ → List Piece → List Token
tokens_of at [] = []
tokens_of at (p ∷ ps) = token_at at (at + length p.text) p.kind ++ tokens_of (at + length p.text) ps

-- the source is these pieces and then the rest
abbrev pub IsCut : List ℕ → List Piece → List ℕ → Type 0
IsCut source pieces rest = (source ≡ text_of pieces ++ rest) × AreLongest pieces rest

-- the tokens spell the source: each is the longest that may stand at its place, and only separators stand between
abbrev pub Spell : List Token → List ℕ → Type 0
Spell tokens source = (pieces : List Piece) × IsCut source pieces [] × (tokens ≡ tokens_of 0 pieces)

-- no token passes a limit
abbrev pub AreWithinLimits : List Token → Type 0
AreWithinLimits tokens = AllByRecursion (λ (t : Token). limit_passed t.kind ≡ None) tokens

-- no piece begins with the first byte
abbrev pub BeginsNothing : List ℕ → Type 0
BeginsNothing bytes = (b : ℕ) × (bs : List ℕ) × (bytes ≡ b ∷ bs) × ((piece : Option Kind) (more : List ℕ) → IsPiece piece (b ∷ more) → ⊥)

-- the end, or a byte that is neither a quote nor stands in texts
abbrev pub CutsText : List ℕ → Type 0
CutsText [] = ⊤
CutsText (b ∷ bs) = IsFalse (is_text_byte b) × (b ≢ 39)

-- a text begins and is not closed
abbrev pub IsOpenText : List ℕ → Type 0
IsOpenText bytes = (inside rest : List ℕ) × IsTrue (list_all is_text_byte inside) × CutsText rest × (bytes ≡ 39 ∷ inside ++ rest)

-- the longest token at the front passes this limit
abbrev pub PassesLimit : FaultKind → List ℕ → Type 0
PassesLimit fault bytes =
    (kind : Kind) × (text rest : List ℕ) × (bytes ≡ text ++ rest) × IsToken kind text × IsLongest text rest
    × (limit_passed kind ≡ Some fault)

-- the fault stands at the front
abbrev pub HasFault : FaultKind → List ℕ → Type 0
HasFault BadByte bytes = BeginsNothing bytes
HasFault OpenText bytes = IsOpenText bytes
HasFault NumberTooWide bytes = PassesLimit NumberTooWide bytes
HasFault TextTooLong bytes = PassesLimit TextTooLong bytes
HasFault NameTooLong bytes = PassesLimit NameTooLong bytes

-- the number by which people know a fault
abbrev pub number_of : FaultKind → ℕ
number_of BadByte = 1
number_of OpenText = 2
number_of NumberTooWide = 3
number_of TextTooLong = 4
number_of NameTooLong = 5

-- the first fault of the source: what stands before its place are longest pieces within the limits
abbrev pub IsFirstFault : ℕ → FaultKind → List ℕ → Type 0
IsFirstFault place fault source =
    (pieces : List Piece) × (rest : List ℕ) × IsCut source pieces rest × AreWithinLimits (tokens_of 0 pieces)
    × (place ≡ length (text_of pieces)) × HasFault fault rest
