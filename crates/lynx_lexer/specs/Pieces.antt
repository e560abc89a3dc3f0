-- The pieces that a source is cut into: separators and tokens.
use Rattle.std.specs.Prelude.{◌≡◌, ◌≢◌, ℕ, ◌+◌, ◌*◌, ◌-◌, ◌≤◌, ◌⊎◌, Bool, true, false, not, ◌&&◌, ◌==◌, nat_le, nat_lt}
use Rattle.std.specs.Prelude.{if◌then◌else◌, IsTrue, List, [], ◌∷◌, ◌++◌, length, Option, Some, None, pos, int_lt}
use Rattle.std.specs.List.{list_all, fold}
use Rattle.lynx_lexer.specs.Bytes.{class_of, most_name}
use Rattle.lynx_lexer.specs.Words.{word_of, sign_of}
use Rattle.lynx_lexer.specs.declared.class.Class.{Class}
use Rattle.lynx_lexer.specs.declared.class.Class.TheVariants.{Blank, Letter, Digit, Underscore, Quote, Other}
use Rattle.lynx_lexer.specs.declared.fault.FaultKind.{FaultKind}
use Rattle.lynx_lexer.specs.declared.fault.FaultKind.TheVariants.{NumberTooWide, TextTooLong, NameTooLong}
use Rattle.lynx_lexer.specs.declared.keyword.Keyword.{Keyword}
use Rattle.lynx_lexer.specs.declared.token.Kind.{Kind}
use Rattle.lynx_lexer.specs.declared.token.Kind.TheVariants as kinds

-- letters, digits and `_`
abbrev pub goes_on_name : Class → Bool
goes_on_name Letter = true
goes_on_name Digit = true
goes_on_name Underscore = true
goes_on_name Blank = false
goes_on_name Quote = false
goes_on_name Other = false

abbrev pub is_name_byte : ℕ → Bool
is_name_byte b = goes_on_name (class_of b)

abbrev pub is_digit : ℕ → Bool
is_digit b = nat_le 48 b && nat_le b 57

-- the bytes 32 to 126 other than the quote
abbrev pub is_text_byte : ℕ → Bool
is_text_byte b = nat_le 32 b && nat_le b 126 && not (b == 39)

-- any byte but a line feed
abbrev pub is_comment_byte : ℕ → Bool
is_comment_byte b = not (b == 10)

-- one byte that is a blank
abbrev pub IsBlank : List ℕ → Type 0
IsBlank text = (b : ℕ) × (class_of b ≡ Blank) × (text ≡ b ∷ [])

-- `--` and bytes of one line
abbrev pub IsComment : List ℕ → Type 0
IsComment text = (line : List ℕ) × IsTrue (list_all is_comment_byte line) × (text ≡ 45 ∷ 45 ∷ line)

-- a letter and then letters, digits and `_`
abbrev pub IsWord : List ℕ → Type 0
IsWord text = (b : ℕ) × (bs : List ℕ) × (class_of b ≡ Letter) × IsTrue (list_all is_name_byte bs) × (text ≡ b ∷ bs)

-- digits, one at least
abbrev pub IsDigits : List ℕ → Type 0
IsDigits text = (b : ℕ) × (bs : List ℕ) × (class_of b ≡ Digit) × IsTrue (list_all is_digit bs) × (text ≡ b ∷ bs)

-- the number that digits stand for
abbrev pub decimal : List ℕ → ℕ
decimal digits = fold (λ n b. 10 * n + (b - 48)) 0 digits

-- the bytes spell a token of the kind
abbrev pub IsToken : Kind → List ℕ → Type 0
IsToken (kinds.Keyword keyword) text = text ≡ word_of keyword
IsToken (kinds.Sign sign) text = text ≡ sign_of sign
IsToken (kinds.Name name) text = (name ≡ text) × IsWord text × ((keyword : Keyword) → text ≢ word_of keyword)
IsToken (kinds.Number number) text = IsDigits text × (number ≡ pos (decimal text))
IsToken (kinds.Text inside) text = IsTrue (list_all is_text_byte inside) × (text ≡ 39 ∷ inside ++ 39 ∷ [])

-- the bytes are a separator (None) or spell a token of the kind
abbrev pub IsPiece : Option Kind → List ℕ → Type 0
IsPiece None text = IsBlank text ⊎ IsComment text
IsPiece (Some kind) text = IsToken kind text

-- no piece at the front of the text and what follows it is longer than the text
abbrev pub IsLongest : List ℕ → List ℕ → Type 0
IsLongest text rest =
    (piece : Option Kind) (other more : List ℕ) → text ++ rest ≡ other ++ more → IsPiece piece other → length other ≤ length text

-- the fault where a token passes a limit
abbrev pub limit_passed : Kind → Option FaultKind
limit_passed (kinds.Keyword keyword) = None
limit_passed (kinds.Sign sign) = None
limit_passed (kinds.Name name) = if nat_lt most_name (length name) then Some NameTooLong else None
limit_passed (kinds.Number number) = if int_lt (pos 9223372036854775807) number then Some NumberTooWide else None
limit_passed (kinds.Text inside) = if nat_lt 64 (length inside) then Some TextTooLong else None
