-- What the code of a machine tells, as values of the meaning of code.
use Rattle.std.specs.Prelude.{ℤ, List, map, Result, Ok, Err}
use Rattle.typing_rules.specs.declared.exception.Exception.{Exception}
use Rattle.lynx_meaning.specs.Values.{Given, Int, Truth, Text, Row, Link}
use Rattle.lynx_meaning.specs.Values as meaning
use Rattle.machine_values.specs.declared.value.Value.{Value}
use Rattle.machine_values.specs.declared.value.Value.TheVariants as values

abbrev pub value_of : Value → meaning.Value
value_of (values.Int n) = Int n
value_of (values.Bool b) = Truth b
value_of (values.Text bytes) = Text bytes
value_of (values.Row numbers) = Row numbers
value_of (values.Link l) = Link l.0

abbrev pub values_of : List Value → List meaning.Value
values_of vs = map value_of vs

-- a number, or an exception in its place
abbrev pub told : Result ℤ Exception → Given
told (Ok n) = Ok (Int n)
told (Err exception) = Err exception

-- a row that was changed, or was not since there is an exception
abbrev pub stored : {X : Type 0} → Result X Exception → List ℤ → List ℤ → Result (List ℤ) Exception
stored (Ok done) before after = Ok after
stored (Err exception) before after = Err exception
