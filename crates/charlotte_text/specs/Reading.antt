-- What words and texts say, and why they say nothing: the readers' answers as functions of the bytes.
use Rattle.std.specs.Prelude.{◌≡◌, ℕ, zero, suc, List, [], ◌∷◌, Bool, false, ◌&&◌, ◌||◌, not, nat_le, nat_lt, ◌==◌, ◌+◌, ◌-◌}
use Rattle.std.specs.Prelude.{◌*◌, ◌^◌, if◌then◌else◌, codes, length, take, slice_index, Option, Some, None, Result, Ok, Err}
use Rattle.std.specs.List.{slice_split, list_all}
use Rattle.std.specs.Char.{is_ascii_digit}
use Rattle.std.specs.Str.{bytes_eq}
use Rattle.std.specs.Str.Parse.{digits_value}
use Rattle.charlotte_calls.specs.declared.names.Side.{Side}
use Rattle.charlotte_calls.specs.declared.names.Side.TheVariants.{A, B}
use Rattle.charlotte_calls.specs.declared.names.Way.{Way}
use Rattle.charlotte_calls.specs.declared.names.Way.TheVariants.{Inward, Outward}
use Rattle.charlotte_calls.specs.declared.names.EndId.{EndId}
use Rattle.charlotte_calls.specs.declared.calls.Call.{Call}
use Rattle.charlotte_calls.specs.declared.calls.Call.TheVariants as call
use Rattle.charlotte_text.specs.declared.fault.Fault.{Fault}
use Rattle.charlotte_text.specs.declared.fault.Fault.TheVariants.{Form, Long}
use Rattle.charlotte_text.specs.declared.number.Number.{Number}
use Rattle.charlotte_text.specs.declared.number.Number.TheVariants.{Is, Large}
use Rattle.charlotte_text.specs.declared.call.Keyword.{Keyword}
use Rattle.charlotte_text.specs.declared.call.Keyword.TheVariants.{Make, Destroy, Send, Receive, Cancel, Wait, Print, Exit}
use Rattle.charlotte_text.specs.Spelling.{is_plain, most_ends, blank}

infixl 10 ◌>>=◌
-- what is read next, unless there is a fault
abbrev pub ◌>>=◌ : {A B : Type 0} → Result A Fault → (A → Result B Fault) → Result B Fault
(Ok x) >>= f = f x
(Err e) >>= f = Err e

-- what a reader gives, seen by view, is what is read
abbrev pub Gives : {X Y : Type 0} → (X → Y) → Result X Fault → Result Y Fault → Type 0
Gives view (Ok x) read = read ≡ Ok (view x)
Gives view (Err e) read = read ≡ Err e

-- what a reader puts into a place is what is read
abbrev pub Puts : {X : Type 0} → Result (Unit {0}) Fault → X → Result X Fault → Type 0
Puts (Ok u) x read = read ≡ Ok x
Puts (Err e) x read = read ≡ Err e

-- the parts into which each place of a byte cuts a text
abbrev pub parts : ℕ → List ℕ → List (List ℕ)
parts separator text = slice_split (λ b. b == separator) text

-- the words of a line, which single blanks separate
abbrev pub words : List ℕ → List (List ℕ)
words line = parts blank line

-- the parts of what is left, if anything is
abbrev pub rest_parts : ℕ → Option (List ℕ) → List (List ℕ)
rest_parts separator None = []
rest_parts separator (Some text) = parts separator text

-- the first part, and those behind it
abbrev pub part_at : List (List ℕ) → Result (List ℕ × List (List ℕ)) Fault
part_at [] = Err Form
part_at (p ∷ ps) = Ok (p, ps)

-- no part may stand there
abbrev pub ended : List (List ℕ) → Result (Unit {0}) Fault
ended [] = Ok tt
ended (p ∷ ps) = Err Form

-- one digit or more, the first of several not a zero
abbrev pub is_number : List ℕ → Bool
is_number [] = false
is_number (b ∷ bs) = list_all is_ascii_digit (b ∷ bs) && (length bs == 0 || not (b == 48))

-- a number as a value of its type
abbrev pub sized : ℕ → Number
sized n = if nat_lt n (2 ^ 64) then Is n else Large

-- a decimal number of any size
unfoldable pub number_of : List ℕ → Result Number Fault
number_of word = if is_number word then Ok (sized (digits_value 10 word)) else Err Form

-- a number, where it is below a limit
abbrev pub below : ℕ → Number → Result ℕ Fault
below limit (Is n) = if nat_lt n limit then Ok n else Err Form
below limit Large = Err Form

-- a decimal number below a limit
unfoldable pub number_below : ℕ → List ℕ → Result ℕ Fault
number_below limit word = number_of word >>= below limit

-- the number of a process, of any size
unfoldable pub process_of : List ℕ → Result Number Fault
process_of [] = Err Form
process_of (b ∷ bs) = if b == 112 then number_of bs else Err Form

-- a side at the end of a word, and what stands before it
unfoldable pub side_of : List ℕ → Result (List ℕ × Side) Fault
side_of word =
    if slice_index word (length word - 1) == 97 then Ok (take (length word - 1) word, A)
    else if slice_index word (length word - 1) == 98 then Ok (take (length word - 1) word, B)
    else Err Form

-- the maker, a dot, the count and the side
unfoldable pub end_of : List ℕ → Result EndId Fault
end_of word = do
  maker ← part_at (parts 46 word)
  tail ← part_at maker.1
  last ← ended tail.1
  side ← side_of tail.0
  m ← number_below (2 ^ 8) maker.0
  c ← number_below (2 ^ 32) side.0
  Ok (record { link = record { maker = m; count = c }; side = side.1 })

-- an end behind a plus
unfoldable pub plus_end_of : List ℕ → Result EndId Fault
plus_end_of [] = Err Form
plus_end_of (b ∷ bs) = if b == 43 then end_of bs else Err Form

-- the words of ends, at most so many
unfoldable pub ends_of : ℕ → List (List ℕ) → Result (List EndId) Fault
ends_of most [] = Ok []
ends_of zero (w ∷ ws) = Err Form
ends_of (suc most) (w ∷ ws) = plus_end_of w >>= λ e. ends_of most ws >>= λ es. Ok (e ∷ es)

-- the value of an upper-case hexadecimal digit, and 16 where a byte is none
abbrev pub hex_value : ℕ → ℕ
hex_value b = if nat_le 48 b && nat_le b 57 then b - 48 else if nat_le 65 b && nat_le b 70 then b - 55 else 16

-- the byte of two hexadecimal digits, which stands for itself nowhere
abbrev pub escaped : ℕ → ℕ → Result ℕ Fault
escaped h l =
    if nat_lt (hex_value h) 16 && nat_lt (hex_value l) 16 && not (is_plain (16 * hex_value h + hex_value l))
    then Ok (16 * hex_value h + hex_value l)
    else Err Form

-- the first byte that is spelled, and what stands behind its spelling
abbrev pub byte_at : List ℕ → Result (ℕ × List ℕ) Fault
byte_at [] = Err Form
byte_at (b ∷ []) = if is_plain b then Ok (b, []) else Err Form
byte_at (b ∷ h ∷ []) = if is_plain b then Ok (b, h ∷ []) else Err Form
byte_at (b ∷ h ∷ l ∷ rest) = if is_plain b then Ok (b, h ∷ l ∷ rest) else if b == 37 then (escaped h l >>= λ v. Ok (v, rest)) else Err Form

-- a byte before others
abbrev pub with_first : ℕ → Result (List ℕ) Fault → Result (List ℕ) Fault
with_first b read = read >>= λ bs. Ok (b ∷ bs)

-- the bytes that are spelled one behind the other
unfoldable pub decoded : List ℕ → Result (List ℕ) Fault
decoded [] = Ok []
decoded (b ∷ []) = if is_plain b then Ok (b ∷ []) else Err Form
decoded (b ∷ h ∷ []) = if is_plain b then with_first b (decoded (h ∷ [])) else Err Form
decoded (b ∷ h ∷ l ∷ rest) =
    if is_plain b then with_first b (decoded (h ∷ l ∷ rest)) else if b == 37 then (escaped h l >>= λ v. with_first v (decoded rest))
    else Err Form

-- the form is right, and the bytes may be too many
abbrev pub limited : List ℕ → Result (List ℕ) Fault
limited bytes = if nat_le (length bytes) 256 then Ok bytes else Err Long

-- one spelled byte or more, and at most 256
abbrev pub spelled : List ℕ → Result (List ℕ) Fault
spelled word = decoded word >>= limited

-- a string of bytes, of at most 256
unfoldable pub bytes_of : List ℕ → Result (List ℕ) Fault
bytes_of word = if bytes_eq word (codes "-") then Ok [] else if length word == 0 then Err Form else spelled word

-- the direction of an activity
unfoldable pub way_of : List ℕ → Result Way Fault
way_of word = if bytes_eq word (codes "in") then Ok Inward else if bytes_eq word (codes "out") then Ok Outward else Err Form

-- the first word of a call
unfoldable pub keyword_of : List ℕ → Result Keyword Fault
keyword_of word =
    if bytes_eq word (codes "make") then Ok Make
    else if bytes_eq word (codes "destroy") then Ok Destroy
    else if bytes_eq word (codes "send") then Ok Send
    else if bytes_eq word (codes "receive") then Ok Receive
    else if bytes_eq word (codes "cancel") then Ok Cancel
    else if bytes_eq word (codes "wait") then Ok Wait
    else if bytes_eq word (codes "print") then Ok Print
    else if bytes_eq word (codes "exit") then Ok Exit
    else Err Form

-- an end, and nothing behind it
unfoldable pub only_end_of : List (List ℕ) → Result EndId Fault
only_end_of ws = do
  e ← part_at ws
  on ← end_of e.0
  last ← ended e.1
  Ok on

-- the form of each word is tested before the number of bytes
unfoldable pub send_of : ℕ → List (List ℕ) → Result Call Fault
send_of version ws = do
  e ← part_at ws
  on ← end_of e.0
  text ← part_at e.1
  enclose ← ends_of (most_ends version) text.1
  bytes ← bytes_of text.0
  Ok (call.Send on bytes enclose)

unfoldable pub cancel_of : List (List ℕ) → Result Call Fault
cancel_of ws = do
  e ← part_at ws
  on ← end_of e.0
  w ← part_at e.1
  way ← way_of w.0
  last ← ended w.1
  Ok (call.Cancel on way)

unfoldable pub print_of : List (List ℕ) → Result Call Fault
print_of ws = do
  text ← part_at ws
  last ← ended text.1
  bytes ← bytes_of text.0
  Ok (call.Print bytes)

-- what stands behind the first word
unfoldable pub operands_of : ℕ → Keyword → List (List ℕ) → Result Call Fault
operands_of version Make ws = ended ws >>= λ u. Ok call.Make
operands_of version Destroy ws = only_end_of ws >>= λ on. Ok (call.Destroy on)
operands_of version Send ws = send_of version ws
operands_of version Receive ws = only_end_of ws >>= λ on. Ok (call.Receive on)
operands_of version Cancel ws = cancel_of ws
operands_of version Wait ws = ended ws >>= λ u. Ok call.Wait
operands_of version Print ws = print_of ws
operands_of version Exit ws = ended ws >>= λ u. Ok call.Exit

-- the words of a call
unfoldable pub call_of : ℕ → List (List ℕ) → Result Call Fault
call_of version ws = do
  first ← part_at ws
  keyword ← keyword_of first.0
  operands_of version keyword first.1
