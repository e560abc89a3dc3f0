-- How a signature is read byte by byte: what may stand next, so that a signature of the size that is told goes on so.
use Rattle.std.specs.Prelude.{ℕ, zero, suc, List, [], ◌∷◌, ◌++◌, ◌+◌, ◌-◌, length, slice_index, Option, Some, None, Result, Ok, Err, Bool, true, false, ◌&&◌, ◌||◌, not, nat_le, nat_lt, ◌==◌, if◌then◌else◌, ℤ, pos, codes}
use Rattle.std.specs.Char.{is_ascii_alphabetic, is_ascii_alphanumeric}
use Rattle.std.specs.Str.{bytes_eq}
use Rattle.lynx_lexer.specs.declared.keyword.Keyword.{Keyword}
use Rattle.lynx_lexer.specs.Words.{word_of}
use Rattle.lynx_lexer.specs.Slots.{keyword_at, slot_of}
use Rattle.lynx_tree.specs.declared.declaration.TypeName.{TypeName}
use Rattle.lynx_tree.specs.declared.declaration.TypeName.TheVariants as types
use Rattle.typing_rules.specs.Types.{is_link}
use Rattle.lynx_packets.specs.declared.spot.Part.{Part}
use Rattle.lynx_packets.specs.declared.spot.Part.TheVariants.{Arguments, Results}
use Rattle.lynx_packets.specs.declared.spot.Word.{Word}
use Rattle.lynx_packets.specs.declared.spot.Word.TheVariants as words
use Rattle.lynx_packets.specs.declared.spot.Spot.{Spot}
use Rattle.lynx_packets.specs.declared.spot.Spot.TheVariants as spots
use Rattle.lynx_packets.specs.Reading.{◌>>=◌, byte_at, bytes_at, one_if}

-- how far a closing bracket, a comma or the end of a type may stand before the end of a signature, in its arguments and in its results
abbrev pub closes : Part → ℕ → Bool
closes Arguments left = left == 4 || (nat_le 7 left && not (left == 10))
closes Results left = left == 1

abbrev pub goes_on : Part → ℕ → Bool
goes_on Arguments left = nat_le 8 left
goes_on Results left = (nat_le 5 left && nat_le left 7) || nat_le 9 left

abbrev pub ends : Part → ℕ → Bool
ends part left = closes part left || goes_on part left

-- the part can go on behind so many bytes more
abbrev pub behind : Part → ℕ → ℕ → Bool
behind part left width = nat_le width left && ends part (left - width)

abbrev pub may_link : Part → ℕ → Bool
may_link Arguments links = not (links == 0)
may_link Results links = true

-- the letters of the word of a type
abbrev pub letters_of : Word → List ℕ
letters_of words.Int = codes "int"
letters_of words.Bool = codes "bool"
letters_of words.Text = codes "text"
letters_of words.Link = codes "link"
letters_of words.Row = codes "row"

-- the word that a letter begins, if the signature can end where it has to
unfoldable pub word_begun : Part → ℕ → ℕ → ℕ → Option Word
word_begun part links left b =
    if b == 105 && behind part left 3 then Some words.Int
    else if b == 98 && behind part left 4 then Some words.Bool
    else if b == 116 && behind part left 4 then Some words.Text
    else if b == 108 && may_link part links && behind part left 4 then Some words.Link
    else if b == 114 && (behind part left 4 || behind part left 5) then Some words.Row
    else None

abbrev pub started : Part → Option Word → Option Spot
started part None = None
started part (Some word) = Some (spots.Within part word 1)

-- behind the last letter of a word
abbrev pub worded : Part → Word → Spot
worded part words.Row = spots.Digits part
worded part _ = spots.Ended part

abbrev pub is_last : Word → ℕ → Bool
is_last word at = at == length (letters_of word) - 1

-- behind the letter at a place of a word
abbrev pub spelled : Part → Word → ℕ → Spot
spelled part word at = if is_last word at then worded part word else spots.Within part word (at + 1)

-- behind the closing bracket
abbrev pub closed : Part → Spot
closed Arguments = spots.Colon
closed Results = spots.Done

-- behind a type
abbrev pub ended_on : Part → ℕ → ℕ → Option Spot
ended_on part left b =
    if b == 41 && closes part left then Some (closed part)
    else if b == 44 && goes_on part left then Some (spots.Comma part)
    else None

-- behind an opening bracket
abbrev pub opened_on : ℕ → Part → ℕ → ℕ → Option Spot
opened_on links part left b = if b == 41 && closes part left then Some (closed part) else started part (word_begun part links left b)

-- within a word
abbrev pub letter_on : Part → Word → ℕ → ℕ → Option Spot
letter_on part word at b = if nat_lt at (length (letters_of word)) && b == slice_index (letters_of word) at then Some (spelled part word at) else None

-- behind `row`
abbrev pub digits_on : Part → ℕ → ℕ → Option Spot
digits_on part left b =
    if b == 49 then Some (spots.One part)
    else if nat_le 50 b && nat_le b 57 && behind part left 1 then Some (spots.Ended part)
    else None

-- behind `row1`
abbrev pub one_on : Part → ℕ → ℕ → Option Spot
one_on part left b =
    if nat_le 48 b && nat_le b 54 then (if behind part left 1 then Some (spots.Ended part) else None)
    else ended_on part left b

-- behind one more byte of a signature, where so many bytes of it are left with this one, and so many links may come; none where no signature
-- of this size goes on so
unfoldable pub next_spot : ℕ → ℕ → Spot → ℕ → Option Spot
next_spot links left (spots.Opened part) b = opened_on links part left b
next_spot links left (spots.Comma part) b = started part (word_begun part links left b)
next_spot links left (spots.Within part word at) b = letter_on part word at b
next_spot links left (spots.Digits part) b = digits_on part left b
next_spot links left (spots.One part) b = one_on part left b
next_spot links left (spots.Ended part) b = ended_on part left b
next_spot links left spots.Colon b = if b == 58 then Some spots.Open else None
next_spot links left spots.Open b = if b == 40 then Some (spots.Opened Results) else None
next_spot links left spots.Done b = None

abbrev pub type_of_word : Word → Option TypeName
type_of_word words.Int = Some types.Int
type_of_word words.Bool = Some types.Bool
type_of_word words.Text = Some types.Text
type_of_word words.Link = Some types.Link
type_of_word words.Row = None

-- a row of one digit, behind `row`
abbrev pub digit_told : ℕ → Option TypeName
digit_told b = if nat_le 50 b && nat_le b 57 then Some (types.Row (pos (b - 48))) else None

-- the length of a row behind `row1`
abbrev pub one_told : ℕ → ℤ
one_told b = if nat_le 48 b && nat_le b 54 then pos (b - 38) else pos 1

-- the argument's type that is known to be whole at this byte
unfoldable pub type_told : Spot → ℕ → Option TypeName
type_told (spots.Within Arguments word at) b = if is_last word at then type_of_word word else None
type_told (spots.Digits Arguments) b = digit_told b
type_told (spots.One Arguments) b = Some (types.Row (one_told b))
type_told _ b = None

abbrev pub link_told : Option TypeName → ℕ
link_told None = 0
link_told (Some t) = one_if (is_link t)

abbrev pub listed : Option TypeName → List TypeName
listed None = []
listed (Some t) = t ∷ []

abbrev pub is_done : Spot → Bool
is_done spots.Done = true
is_done _ = false

abbrev pub with_told : Option TypeName → Result (List TypeName × List ℕ) ℕ → Result (List TypeName × List ℕ) ℕ
with_told None read = read
with_told (Some t) read = read >>= λ x. Ok (t ∷ x.0, x.1)

-- where it goes on, or that it does not
abbrev pub onward : {X : Type 0} → Option Spot → ℕ → (Spot → Result X ℕ) → Result X ℕ
onward None left f = Err left
onward (Some next) left f = f next

-- the types of the arguments, and what stands behind the signature
unfoldable pub types_at : ℕ → ℕ → Spot → List ℕ → Result (List TypeName × List ℕ) ℕ
types_at links left spots.Done bytes = Ok ([], bytes)
types_at links left spot [] = Err 0
types_at links left spot (b ∷ bs) =
    onward (next_spot links left spot b) (suc (length bs)) (λ next. with_told (type_told spot b) (types_at (links - link_told (type_told spot b)) (left - 1) next bs))

-- ---- names

abbrev pub keyword_spelled : List ℕ → Option Keyword → Bool
keyword_spelled word None = false
keyword_spelled word (Some keyword) = bytes_eq word (word_of keyword)

abbrev pub is_keyword : List ℕ → Bool
is_keyword word = keyword_spelled word (keyword_at (slot_of word))

-- a name of so many bytes of which so many more are to come, with the brackets and types behind it, can be completed
abbrev pub room_left : ℕ → ℕ → Bool
room_left size left = nat_le size 32 && ((left == 5) || nat_le 8 left || (nat_le 6 left && nat_le (size + (left - 5)) 32))

-- these begin the signatures of some operations, and so many bytes more are to come: a keyword has to go on
abbrev pub begins_name : List ℕ → ℕ → Bool
begins_name name left = room_left (length name) left && (nat_le 6 left || not (is_keyword name))

-- the opening bracket may stand behind the name, so many bytes before the end
abbrev pub opens : List ℕ → ℕ → ℕ → Bool
opens name left b = b == 40 && not (length name == 0) && not (is_keyword name) && (left == 5 || nat_le 8 left)

-- a letter, and behind a letter also a digit or `_`
abbrev pub is_name_at : ℕ → ℕ → Bool
is_name_at zero b = is_ascii_alphabetic b
is_name_at (suc at) b = is_ascii_alphanumeric b || b == 95

abbrev pub names : List ℕ → ℕ → ℕ → Bool
names name left b = is_name_at (length name) b && begins_name (name ++ b ∷ []) (left - 1)

-- the name, and what stands behind its bracket
unfoldable pub name_at : List ℕ → ℕ → List ℕ → Result (List ℕ × List ℕ) ℕ
name_at name left [] = Err 0
name_at name left (b ∷ bs) =
    if opens name left b then Ok (name, bs)
    else if names name left b then name_at (name ++ b ∷ []) (left - 1) bs
    else Err (suc (length bs))

-- the signature, with the types of the arguments
abbrev pub Signed : Type 0
Signed = List ℕ × List TypeName

unfoldable pub signature_at : List ℕ → Result (Signed × List ℕ) ℕ
signature_at bytes = do
  size ← byte_at 6 255 bytes
  name ← name_at [] size.0 size.1
  types ← types_at 8 (size.0 - length name.0 - 1) (spots.Opened Arguments) name.1
  text ← bytes_at size.0 size.1
  Ok ((text.0, types.0), types.1)
