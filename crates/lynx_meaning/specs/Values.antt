-- Values, and what operators make of them.
use Rattle.std.specs.Prelude.{◌≡◌, ℕ, ◌^◌, ◌≤◌, ℤ, pos, negsuc, ◌+ℤ◌, ◌-ℤ◌, ◌*ℤ◌, neg_ℤ, nat_abs, int_le, int_lt}
use Rattle.std.specs.Prelude.{int_div, int_rem, List, [], length, replicate, Bool, true, false, ◌&&◌, not, nat_lt}
use Rattle.std.specs.Prelude.{IsTrue, if◌then◌else◌, Result, Ok, Err, slice_index_or, slice_set, codes, ⊤}
use Rattle.std.specs.Fmt.{signed_decimal}
use Rattle.std.specs.List.{AllByRecursion}
use Rattle.std.specs.Ordering.{int_eq}
use Rattle.std.specs.Str.{bytes_eq}
use Rattle.lynx_tree.specs.declared.declaration.TypeName.{TypeName}
use Rattle.lynx_tree.specs.declared.declaration.TypeName.TheVariants as types
use Rattle.lynx_code.specs.Modules.{ArePairs}
use Rattle.typing_rules.specs.declared.exception.Exception.{Exception}
use Rattle.typing_rules.specs.declared.exception.Exception.TheVariants as exceptions

-- a value of a variable; a link is a number, and 0 is none
pub data Value : Type 0 where
  Int : ℤ → Value
  Truth : Bool → Value
  Text : List ℕ → Value
  Row : List ℤ → Value
  Link : ℕ → Value

-- a value, or the exception that is raised in its place
abbrev pub Given : Type 0
Given = Result Value Exception

-- what a variable of a type holds at the start
abbrev pub start_value : TypeName → Value
start_value types.Int = Int (pos 0)
start_value types.Bool = Truth false
start_value types.Text = Text []
start_value types.Link = Link 0
start_value (types.Row n) = Row (replicate (nat_abs n) (pos 0))

-- what `write` prints; rows and links are not written
abbrev pub written : Value → List ℕ
written (Int n) = signed_decimal n
written (Truth true) = codes "true"
written (Truth false) = codes "false"
written (Text bytes) = bytes
written (Row ns) = []
written (Link n) = []

-- ---- the parts of values; where a module obeys the rules, no value of another kind meets them

abbrev pub int_of : Value → ℤ
int_of (Int n) = n
int_of _ = pos 0

abbrev pub truth_of : Value → Bool
truth_of (Truth b) = b
truth_of _ = false

abbrev pub row_of : Value → List ℤ
row_of (Row ns) = ns
row_of _ = []

-- ---- types

-- a number of 64 bits
abbrev pub is_int : ℤ → Bool
is_int n = int_le (neg_ℤ (pos (2 ^ 63))) n && int_lt n (pos (2 ^ 63))

-- the value is one of the type, and within its range
abbrev pub HasType : TypeName → Value → Type 0
HasType types.Int (Int n) = IsTrue (is_int n)
HasType types.Bool (Truth b) = ⊤
HasType types.Text (Text bytes) = length bytes ≤ 64
HasType types.Link (Link n) = ⊤
HasType (types.Row n) (Row ns) = (pos (length ns) ≡ n) × AllByRecursion (λ member. IsTrue (is_int member)) ns
HasType _ _ = ⊥

-- as many values as types, each of its type
abbrev pub HaveTypes : List TypeName → List Value → Type 0
HaveTypes ts vs = ArePairs HasType ts vs

-- ---- numbers

-- the number, or OVERFLOW
abbrev pub within : ℤ → Given
within n = if is_int n then Ok (Int n) else Err exceptions.Overflow

abbrev pub add : ℤ → ℤ → Given
add a b = within (a +ℤ b)

abbrev pub subtract : ℤ → ℤ → Given
subtract a b = within (a -ℤ b)

abbrev pub multiply : ℤ → ℤ → Given
multiply a b = within (a *ℤ b)

abbrev pub negate : ℤ → Given
negate a = within (neg_ℤ a)

-- a quotient goes towards zero
abbrev pub divide : ℤ → ℤ → Given
divide a b = if int_eq b (pos 0) then Err exceptions.Divide else within (int_div a b)

-- a remainder has the sign of the first operand; there is none where there is no quotient
abbrev pub beside : Given → Value → Given
beside (Ok quotient) remainder = Ok remainder
beside (Err exception) remainder = Err exception

abbrev pub reduce : ℤ → ℤ → Given
reduce a b = beside (divide a b) (Int (int_rem a b))

-- ---- equal values; rows and links are not compared

abbrev pub truth_eq : Bool → Bool → Bool
truth_eq true b = b
truth_eq false b = not b

abbrev pub value_eq : Value → Value → Bool
value_eq (Int a) (Int b) = int_eq a b
value_eq (Truth a) (Truth b) = truth_eq a b
value_eq (Text a) (Text b) = bytes_eq a b
value_eq _ _ = false

-- ---- rows

-- an index runs from 0
abbrev pub has_member : List ℤ → ℤ → Bool
has_member row (pos n) = nat_lt n (length row)
has_member row (negsuc n) = false

-- a member of a row, or RANGE
abbrev pub member : List ℤ → ℤ → Given
member row index = if has_member row index then Ok (Int (slice_index_or row (nat_abs index) (pos 0))) else Err exceptions.Range

-- the row with another member in this place, or RANGE
abbrev pub with_member : List ℤ → ℤ → ℤ → Result (List ℤ) Exception
with_member row index a = if has_member row index then Ok (slice_set row (nat_abs index) a) else Err exceptions.Range
