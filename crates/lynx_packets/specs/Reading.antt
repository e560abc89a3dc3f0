-- Reading from left to right. A reader finds a value and the bytes behind it, or else how many bytes stand from the first wrong one on: none
-- where the bytes end too early.
use Rattle.std.specs.Prelude.{◌≡◌, ℕ, zero, suc, List, [], ◌∷◌, ◌-◌, length, take, drop, Result, Ok, Err, Bool, ◌&&◌, nat_le, nat_lt, ◌==◌, if◌then◌else◌, ℤ, nat_abs}
use Rattle.std.specs.Int.{w32, w64, from_be_bytes, cast_signed}
use Rattle.lynx_tree.specs.declared.declaration.TypeName.{TypeName}
use Rattle.lynx_tree.specs.declared.declaration.TypeName.TheVariants as types
use Rattle.lynx_packets.specs.declared.value.RtValue.{RtValue}
use Rattle.lynx_packets.specs.declared.value.RtValue.TheVariants as values
use Rattle.lynx_packets.specs.declared.fault.Unread.{Unread}
use Rattle.lynx_packets.specs.declared.fault.Unread.TheVariants as unread

infixl 10 ◌>>=◌
abbrev pub ◌>>=◌ : {A B : Type 0} → Result A ℕ → (A → Result B ℕ) → Result B ℕ
(Ok x) >>= f = f x
(Err e) >>= f = Err e

-- what a function returned, seen by view, is what reading gives, unless memory ran out
abbrev pub Fails : {Y : Type 0} → Unread → Result Y ℕ → Type 0
Fails unread.Memory read = Unit {0}
Fails (unread.Wrong left) read = read ≡ Err left

abbrev pub Gives : {X Y : Type 0} → (X → Y) → Result X Unread → Result Y ℕ → Type 0
Gives view (Ok x) read = read ≡ Ok (view x)
Gives view (Err e) read = Fails e read

-- ---- fields

-- a byte from low to high
abbrev pub byte_at : ℕ → ℕ → List ℕ → Result (ℕ × List ℕ) ℕ
byte_at low high [] = Err 0
byte_at low high (b ∷ bs) = if nat_le low b && nat_le b high then Ok (b, bs) else Err (suc (length bs))

-- a byte, whatever it is
abbrev pub first_at : List ℕ → Result (ℕ × List ℕ) ℕ
first_at [] = Err 0
first_at (b ∷ bs) = Ok (b, bs)

-- so many bytes, whatever they are
abbrev pub bytes_at : ℕ → List ℕ → Result (List ℕ × List ℕ) ℕ
bytes_at n bytes = if nat_lt (length bytes) n then Err 0 else Ok (take n bytes, drop n bytes)

unfoldable pub number_at : List ℕ → Result (ℕ × List ℕ) ℕ
number_at bytes = do
  field ← bytes_at 4 bytes
  Ok (from_be_bytes w32 field.0, field.1)

unfoldable pub int_at : List ℕ → Result (ℤ × List ℕ) ℕ
int_at bytes = do
  field ← bytes_at 8 bytes
  Ok (cast_signed w64 (from_be_bytes w64 field.0), field.1)

-- ---- values

unfoldable pub text_at : List ℕ → Result (List ℕ × List ℕ) ℕ
text_at bytes = do
  size ← byte_at 0 64 bytes
  bytes_at size.0 size.1

unfoldable pub numbers_at : ℕ → List ℕ → Result (List ℤ × List ℕ) ℕ
numbers_at zero bytes = Ok ([], bytes)
numbers_at (suc n) bytes = do
  first ← int_at bytes
  others ← numbers_at n first.1
  Ok (first.0 ∷ others.0, others.1)

-- a row whose length is from low to high
unfoldable pub row_at : ℕ → ℕ → List ℕ → Result (List ℤ × List ℕ) ℕ
row_at low high bytes = do
  size ← byte_at low high bytes
  numbers_at size.0 size.1

-- what stands behind the byte that tells a value's type
unfoldable pub int_value : List ℕ → Result (RtValue × List ℕ) ℕ
int_value bytes = int_at bytes >>= λ n. Ok (values.Int n.0, n.1)

unfoldable pub bool_value : List ℕ → Result (RtValue × List ℕ) ℕ
bool_value bytes = byte_at 0 1 bytes >>= λ b. Ok (values.Bool (b.0 == 1), b.1)

unfoldable pub text_value : List ℕ → Result (RtValue × List ℕ) ℕ
text_value bytes = text_at bytes >>= λ t. Ok (values.Text t.0, t.1)

unfoldable pub row_value : ℕ → ℕ → List ℕ → Result (RtValue × List ℕ) ℕ
row_value low high bytes = row_at low high bytes >>= λ r. Ok (values.Row r.0, r.1)

-- the byte that tells the type
abbrev pub tag_of : TypeName → ℕ
tag_of types.Int = 1
tag_of types.Bool = 2
tag_of types.Text = 3
tag_of (types.Row n) = 4
tag_of types.Link = 5

-- a value of the type
abbrev pub of_type : TypeName → List ℕ → Result (RtValue × List ℕ) ℕ
of_type types.Int bytes = int_value bytes
of_type types.Bool bytes = bool_value bytes
of_type types.Text bytes = text_value bytes
of_type (types.Row n) bytes = row_value (nat_abs n) (nat_abs n) bytes
of_type types.Link bytes = Ok (values.Link, bytes)

unfoldable pub typed_at : TypeName → List ℕ → Result (RtValue × List ℕ) ℕ
typed_at t bytes = do
  tag ← byte_at (tag_of t) (tag_of t) bytes
  of_type t tag.1

-- values of the types, in order
unfoldable pub arguments_at : List TypeName → List ℕ → Result (List RtValue × List ℕ) ℕ
arguments_at [] bytes = Ok ([], bytes)
arguments_at (t ∷ ts) bytes = do
  first ← typed_at t bytes
  others ← arguments_at ts first.1
  Ok (first.0 ∷ others.0, others.1)

-- a value of any type, which is a link only where more links may come
abbrev pub of_tag : ℕ → List ℕ → Result (RtValue × List ℕ) ℕ
of_tag tag bytes =
    if tag == 1 then int_value bytes
    else if tag == 2 then bool_value bytes
    else if tag == 3 then text_value bytes
    else if tag == 4 then row_value 1 16 bytes
    else Ok (values.Link, bytes)

unfoldable pub value_at : ℕ → List ℕ → Result (RtValue × List ℕ) ℕ
value_at links bytes = do
  tag ← byte_at 1 (if links == 0 then 4 else 5) bytes
  of_tag tag.0 tag.1

abbrev pub one_if : Bool → ℕ
one_if b = if b then 1 else 0

abbrev pub link_count : RtValue → ℕ
link_count values.Link = 1
link_count _ = 0

-- the values that all of the bytes spell, where no more than so many links may come; the first number is at least that of the bytes
unfoldable pub values_at : ℕ → ℕ → List ℕ → Result (List RtValue × List ℕ) ℕ
values_at fuel links [] = Ok ([], [])
values_at zero links (b ∷ bs) = Err 0
values_at (suc fuel) links (b ∷ bs) = do
  first ← value_at links (b ∷ bs)
  others ← values_at fuel (links - link_count first.0) first.1
  Ok (first.0 ∷ others.0, others.1)
