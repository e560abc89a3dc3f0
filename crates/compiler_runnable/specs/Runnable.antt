-- Code that a machine can run.
use Rattle.std.specs.Prelude.{◌≡◌, ℕ, suc, List, [], ◌++◌, length, map, drop, replicate, IsTrue, Option, Some, None, slice_get}
use Rattle.std.specs.List.{AllByRecursion}
use Rattle.lynx_tree.specs.Trees.{OpTree}
use Rattle.lynx_tree.specs.declared.declaration.TypeName.{TypeName}
use Rattle.lynx_tree.specs.declared.declaration.TypeName.TheVariants as types
use Rattle.typing_rules.specs.Types.{has_length}
use Rattle.typing_signatures.specs.Facts.{HasFacts}
use Rattle.lynx_code.specs.Modules.{IsOpOf}
use Rattle.lynx_code.specs.declared.code.Code.{Code}
use Rattle.lynx_code.specs.declared.code.CodeOp.{CodeOp}
use Rattle.code_shapes.specs.Shapes.{ModuleTypes, IsShapedCode, code_types, PartTypes, code_parts}
use Rattle.lynx_meaning.specs.Needs.{OpTypes, types_of}
use Rattle.lynx_meaning.specs.Values.{Value, start_value}

-- the types of an operation's arguments, where there is one
abbrev pub arguments_of : ModuleTypes → Option ℕ → List TypeName
arguments_of m None = []
arguments_of m (Some op) = types_of (λ o. o.arguments) (slice_get m.ops op)

-- the types of an entry's parameters
abbrev pub parameters : ModuleTypes → PartTypes → List TypeName
parameters m p = arguments_of m p.op

-- variables of these types have values at the start
abbrev pub HaveStarts : List TypeName → Type 0
HaveStarts ts = AllByRecursion (λ t. IsTrue (has_length t)) ts

-- the variables of an entry, whose parameters have these values
abbrev pub start_locals : List TypeName → List Value → List Value
start_locals kinds values = values ++ map start_value (drop (length values) kinds)

-- the part of an entry: the operation that it serves is there, and its parameters, which have the types of the arguments, come first
pub record IsEntryPart (m : ModuleTypes) (p : PartTypes) : Type 0 where
  pub op : ℕ
  pub serves : p.op ≡ Some op
  pub of_op : OpTypes
  pub there : slice_get m.ops op ≡ Some of_op
  pub others : List TypeName
  pub locals : p.locals ≡ of_op.arguments ++ others

-- the body comes first, serves no operation and has no variables; each other part is an entry's
pub record AreParts (m : ModuleTypes) (parts : List PartTypes) : Type 0 where
  pub body : slice_get parts 0 ≡ Some (record { start = 0; op = None; locals = [] })
  pub starts : (i : ℕ) (p : PartTypes) → slice_get parts i ≡ Some p → HaveStarts p.locals
  pub entries : (i : ℕ) (p : PartTypes) → slice_get parts (suc i) ≡ Some p → IsEntryPart m p

-- it has the facts of ops, and its signature is the text for a name and its types
abbrev pub IsRunnableOp : CodeOp → Type 0
IsRunnableOp made = (op : OpTree) × HasFacts op × IsOpOf op made

pub record IsRunnable (made : Code) : Type 0 where
  pub shaped : IsShapedCode made
  pub parts : AreParts (code_types made) (code_parts made)
  pub globals : HaveStarts made.globals.items
  -- the params come first, and are links
  pub params : (others : List TypeName) × (made.globals.items ≡ replicate made.params types.Link ++ others)
  pub ops : AllByRecursion IsRunnableOp made.ops.items
