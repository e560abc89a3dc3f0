-- The values that an action needs, and their types.
use Rattle.std.specs.Prelude.{ℕ, List, [], ◌∷◌, Option, None, Some, slice_get}
use Rattle.lynx_tree.specs.Trees.{OpTree}
use Rattle.lynx_tree.specs.declared.declaration.TypeName.{TypeName}
use Rattle.lynx_tree.specs.declared.declaration.TypeName.TheVariants as types
use Rattle.lynx_meaning.specs.Courses.{Action, New, Connect, Accept, Close}

-- which values an action needs
pub data Wanted : Type 0 where
  NoValue : Wanted
  -- none, and the innermost open request is closed then
  Closing : Wanted
  TwoLinks : Wanted
  -- of the operation of this number
  Results : ℕ → Wanted
  Arguments : ℕ → Wanted

abbrev pub wanted_by : Action → Wanted
wanted_by New = TwoLinks
wanted_by (Connect link op values) = Results op
wanted_by (Accept link op) = Arguments op
wanted_by Close = Closing
wanted_by _ = NoValue

-- the types of an operation's arguments and results
pub record OpTypes : Type 0 where
  pub arguments : List TypeName
  pub results : List TypeName

abbrev pub op_types : OpTree → OpTypes
op_types op = record { arguments = op.arguments; results = op.results }

-- those of an operation, if there is one
abbrev pub types_of : (OpTypes → List TypeName) → Option OpTypes → List TypeName
types_of field None = []
types_of field (Some op) = field op

-- the types of these values, in a module with these operations
abbrev pub wanted_types : List OpTypes → Wanted → List TypeName
wanted_types ops NoValue = []
wanted_types ops Closing = []
wanted_types ops TwoLinks = types.Link ∷ types.Link ∷ []
wanted_types ops (Results op) = types_of (λ o. o.results) (slice_get ops op)
wanted_types ops (Arguments op) = types_of (λ o. o.arguments) (slice_get ops op)
