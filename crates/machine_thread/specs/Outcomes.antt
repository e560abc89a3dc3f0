-- The first outcome that an instruction was given.
use Rattle.std.specs.Prelude.{List, [], ◌∷◌, Option, Some, None, Ok, Err}
use Rattle.typing_rules.specs.declared.exception.Exception.{Exception}
use Rattle.lynx_meaning.specs.Values.{Value}
use Rattle.lynx_meaning.specs.Courses.{Outcome}

abbrev pub first_given : List Outcome → Outcome
first_given [] = Ok []
first_given (o ∷ os) = o

abbrev pub raised_by : Outcome → Option Exception
raised_by (Ok vs) = None
raised_by (Err exception) = Some exception

abbrev pub values_by : Outcome → List Value
values_by (Ok vs) = vs
values_by (Err exception) = []
