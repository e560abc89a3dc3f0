-- Operands and variables as they are kept, as values.
use Rattle.std.specs.Prelude.{◌≡◌, ◌≤◌, ◌-◌, ℕ, ℤ, List, [], ◌∷◌, length, take, drop, map}
use Rattle.std.specs.Prelude.{slice_get, slice_set, OnErr, Bool, Option, Some, None, Result, Err, ⊤}
use Rattle.typing_rules.specs.declared.exception.Exception.{Exception}
use Rattle.typing_rules.specs.declared.exception.Exception.TheVariants as exceptions
use Rattle.lynx_meaning.specs.Values.{Value, Given, Int, Truth, Text, Row, Link, member, with_member, value_eq}
use Rattle.machine_values.specs.Told.{value_of, stored}
use Rattle.machine_values.specs.declared.value.Value as taken
use Rattle.machine_stack.specs.declared.variables.Variable.{Variable}
use Rattle.machine_stack.specs.declared.variables.Variable.TheVariants as variable
use Rattle.machine_stack.specs.declared.operands.Operand.{Operand}
use Rattle.machine_stack.specs.declared.operands.Operand.TheVariants as operand

-- the values of a stack, the last one first, as are the operands and the rows; the bytes of texts stand in the order in which they came
abbrev pub stacked : List Operand → List ℕ → List (List ℤ) → List Value
stacked [] bytes rows = []
stacked (operand.Int n ∷ ops) bytes rows = Int n ∷ stacked ops bytes rows
stacked (operand.Bool b ∷ ops) bytes rows = Truth b ∷ stacked ops bytes rows
stacked (operand.Link l ∷ ops) bytes rows = Link l.0 ∷ stacked ops bytes rows
stacked (operand.Text n ∷ ops) bytes rows = Text (drop (length bytes - n) bytes) ∷ stacked ops (take (length bytes - n) bytes) rows
stacked (operand.Row ∷ ops) bytes [] = stacked ops bytes []
stacked (operand.Row ∷ ops) bytes (row ∷ rows) = Row row ∷ stacked ops bytes rows

-- there are the bytes of each text, 64 at most, and a row for each operand that is one
abbrev pub AreTogether : List Operand → List ℕ → List (List ℤ) → Type 0
AreTogether [] bytes rows = ⊤
AreTogether (operand.Int n ∷ ops) bytes rows = AreTogether ops bytes rows
AreTogether (operand.Bool b ∷ ops) bytes rows = AreTogether ops bytes rows
AreTogether (operand.Link l ∷ ops) bytes rows = AreTogether ops bytes rows
AreTogether (operand.Text n ∷ ops) bytes rows = (n ≤ length bytes) × (n ≤ 64) × AreTogether ops (take (length bytes - n) bytes) rows
AreTogether (operand.Row ∷ ops) bytes [] = ⊥
AreTogether (operand.Row ∷ ops) bytes (row ∷ rows) = AreTogether ops bytes rows

-- ---- what stands on top

abbrev pub TopIsInt : List Value → Type 0
TopIsInt (Int n ∷ vs) = ⊤
TopIsInt _ = ⊥

abbrev pub TopIsTruth : List Value → Type 0
TopIsTruth (Truth b ∷ vs) = ⊤
TopIsTruth _ = ⊥

abbrev pub TopIsLink : List Value → Type 0
TopIsLink (Link l ∷ vs) = ⊤
TopIsLink _ = ⊥

abbrev pub TopIsText : List Value → Type 0
TopIsText (Text bytes ∷ vs) = ⊤
TopIsText _ = ⊥

abbrev pub TopIsRow : List Value → Type 0
TopIsRow (Row numbers ∷ vs) = ⊤
TopIsRow _ = ⊥

-- two numbers, truths or texts
abbrev pub AreAlikeOnTop : List Value → Type 0
AreAlikeOnTop (Int b ∷ Int a ∷ vs) = ⊤
AreAlikeOnTop (Truth b ∷ Truth a ∷ vs) = ⊤
AreAlikeOnTop (Text b ∷ Text a ∷ vs) = ⊤
AreAlikeOnTop _ = ⊥

abbrev pub AreTextsOnTop : List Value → Type 0
AreTextsOnTop (Text b ∷ Text a ∷ vs) = ⊤
AreTextsOnTop _ = ⊥

-- the two values on top are taken, and found equal or not
abbrev pub IsCompared : List Value → List Value → Bool → Type 0
IsCompared before after equal = (a b : Value) × (before ≡ b ∷ a ∷ after) × (equal ≡ value_eq a b)

abbrev pub IsTop : Value → List Value → Type 0
IsTop v stack = (below : List Value) × (stack ≡ v ∷ below)

-- the value on top is taken, or there is none
abbrev pub IsTaken : List Value → List Value → Option taken.Value → Type 0
IsTaken before after None = (before ≡ []) × (after ≡ [])
IsTaken before after (Some v) = before ≡ value_of v ∷ after

-- ---- variables

abbrev pub variable_value : Variable → Value
variable_value (variable.Int n) = Int n
variable_value (variable.Bool b) = Truth b
variable_value (variable.Link l) = Link l.0
variable_value (variable.Text bytes) = Text bytes.value
variable_value (variable.Row numbers) = Row numbers.value

abbrev pub variable_values : List Variable → List Value
variable_values vs = map variable_value vs

-- two values of one kind
abbrev pub AreAlike : Value → Value → Type 0
AreAlike (Int a) (Int b) = ⊤
AreAlike (Truth a) (Truth b) = ⊤
AreAlike (Text a) (Text b) = ⊤
AreAlike (Row a) (Row b) = ⊤
AreAlike (Link a) (Link b) = ⊤
AreAlike _ _ = ⊥

-- what stands on top is of the kind of this variable
abbrev pub TopIsLike : Option Value → List Value → Type 0
TopIsLike (Some v) (top ∷ below) = AreAlike v top
TopIsLike _ _ = ⊥

abbrev pub IsRow : Option Value → Type 0
IsRow (Some (Row numbers)) = ⊤
IsRow _ = ⊥

-- the value that was on top stands in this variable
abbrev pub IsStored : ℕ → List Value → List Value → List Value → List Value → Type 0
IsStored slot before after variables now = (v : Value) × (before ≡ v ∷ after) × (now ≡ slice_set variables slot v)

-- a member of a row, by its variable
abbrev pub member_of : Option Value → ℤ → Given
member_of (Some (Row numbers)) index = member numbers index
member_of _ index = Err exceptions.Range

-- a row has another member, or is as it was since there is an exception
abbrev pub IsRowSet : {X : Type 0} → ℤ → ℤ → Value → Value → Result X Exception → Type 0
IsRowSet index number (Row before) (Row after) result =
    (stored result before after ≡ with_member before index number) × OnErr result (after ≡ before)
IsRowSet index number _ _ result = ⊥

-- so does the row in this variable
abbrev pub IsMemberSet : {X : Type 0} → ℕ → ℤ → ℤ → List Value → List Value → Result X Exception → Type 0
IsMemberSet slot index number variables now result =
    (before : Value) × (after : Value) × (slice_get variables slot ≡ Some before) × (now ≡ slice_set variables slot after)
    × IsRowSet index number before after result
