-- The kinds of values: the constructor that a type asks for. Ranges are of no concern to code.
use Rattle.std.specs.Prelude.{List, None, Some, Ok, Err, ⊤}
use Rattle.lynx_tree.specs.declared.declaration.TypeName.{TypeName}
use Rattle.lynx_tree.specs.declared.declaration.TypeName.TheVariants as types
use Rattle.typing_rules.specs.Types.{Held}
use Rattle.lynx_code.specs.Modules.{ArePairs}
use Rattle.lynx_meaning.specs.Values.{Value, Int, Truth, Text, Row, Link, Given}

abbrev pub IsOf : TypeName → Value → Type 0
IsOf types.Int (Int n) = ⊤
IsOf types.Bool (Truth b) = ⊤
IsOf types.Text (Text bytes) = ⊤
IsOf types.Link (Link n) = ⊤
IsOf (types.Row n) (Row ns) = ⊤
IsOf _ _ = ⊥

-- of the type that an expression shows
abbrev pub IsHeld : Held → Value → Type 0
IsHeld None v = ⊥
IsHeld (Some t) v = IsOf t v

-- as many values as types, each of that kind
abbrev pub HaveKinds : List TypeName → List Value → Type 0
HaveKinds ts vs = ArePairs IsOf ts vs

-- a value of that kind, or any exception
abbrev pub IsGiven : Held → Given → Type 0
IsGiven held (Ok v) = IsHeld held v
IsGiven held (Err exception) = ⊤
