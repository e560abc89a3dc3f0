-- What names mean.
use Rattle.std.specs.Prelude.{ℕ, ◌+◌, List, [], ◌∷◌, ◌++◌, length, Bool, true, false, Option, None, Some, if◌then◌else◌}
use Rattle.std.specs.List.{flat_map}
use Rattle.std.specs.Str.{bytes_eq}
use Rattle.lynx_lexer.specs.declared.keyword.Keyword.TheVariants as keywords
use Rattle.lynx_tree.specs.declared.declaration.TypeName.{TypeName}
use Rattle.lynx_tree.specs.declared.declaration.TypeName.TheVariants as types
use Rattle.lynx_tree.specs.Trees.{OpTree, VarTree, EntryTree, ModuleTree}
use Rattle.lynx_tree.specs.Grammar.{op_marks, var_marks, vars_marks, entry_marks, names_marks}
use Rattle.typing_rules.specs.Types.{Held}

-- the kinds of names: a variable has a type, an operation its arguments and results
pub data Meaning : Type 0 where
  Variable : TypeName → Meaning
  Operation : List TypeName → List TypeName → Meaning
  Entry : Meaning

-- a declared name, with the number of its token
pub record Declared : Type 0 where
  pub place : ℕ
  pub name : List ℕ
  pub meaning : Meaning

-- what each name means; None where it is not declared
abbrev pub Scope : Type 0
Scope = List ℕ → Option Meaning

-- a name that is declared twice means its first declaration
abbrev pub meaning_in : List Declared → Scope
meaning_in [] name = None
meaning_in (d ∷ ds) name = if bytes_eq d.name name then Some d.meaning else meaning_in ds name

-- a name means the local of that name, else what it means outside
abbrev pub or_outside : Option Meaning → Option Meaning → Option Meaning
or_outside None outside = outside
or_outside (Some meaning) outside = Some meaning

abbrev pub inside : List Declared → Scope → Scope
inside locals outside name = or_outside (meaning_in locals name) (outside name)

-- ---- what a meaning is good for

abbrev pub type_of_variable : Option Meaning → Held
type_of_variable (Some (Variable t)) = Some t
type_of_variable (Some (Operation arguments results)) = None
type_of_variable (Some Entry) = None
type_of_variable None = None

abbrev pub arguments_of : Option Meaning → Option (List TypeName)
arguments_of (Some (Operation arguments results)) = Some arguments
arguments_of (Some (Variable t)) = None
arguments_of (Some Entry) = None
arguments_of None = None

abbrev pub results_of : Option Meaning → Option (List TypeName)
results_of (Some (Operation arguments results)) = Some results
results_of (Some (Variable t)) = None
results_of (Some Entry) = None
results_of None = None

abbrev pub is_entry : Option Meaning → Bool
is_entry (Some Entry) = true
is_entry (Some (Variable t)) = false
is_entry (Some (Operation arguments results)) = false
is_entry None = false

-- ---- where declarations stand

-- what is said of each part of a list, of the number of its first token and of the part; a part has so many tokens
abbrev pub each_at : {X Y : Type 0} → (X → ℕ) → (ℕ → X → List Y) → ℕ → List X → List Y
each_at size said at [] = []
each_at size said at (x ∷ xs) = said at x ++ each_at size said (at + size x) xs

abbrev pub op_size : OpTree → ℕ
op_size op = length (op_marks op)

-- a param has as many tokens as a var
abbrev pub var_size : VarTree → ℕ
var_size var = length (var_marks keywords.Var var)

abbrev pub entry_size : EntryTree → ℕ
entry_size entry = length (entry_marks entry)

-- the numbers of the tokens with which the parts of a module begin
abbrev pub ops_at : ℕ
ops_at = 3

abbrev pub params_at : ModuleTree → ℕ
params_at m = ops_at + length (flat_map op_marks m.ops)

abbrev pub vars_at : ModuleTree → ℕ
vars_at m = params_at m + length (flat_map (var_marks keywords.Param) m.params)

abbrev pub entries_at : ModuleTree → ℕ
entries_at m = vars_at m + length (vars_marks m.vars)

abbrev pub body_at : ModuleTree → ℕ
body_at m = entries_at m + length (flat_map entry_marks m.entries) + 1

-- the same for an entry that begins at this token
abbrev pub parameters_at : ℕ → ℕ
parameters_at at = at + 5

abbrev pub locals_at : ℕ → EntryTree → ℕ
locals_at at entry = at + 4 + length (names_marks 0 entry.parameters)

abbrev pub entry_body_at : ℕ → EntryTree → ℕ
entry_body_at at entry = locals_at at entry + length (vars_marks entry.vars) + 1

-- ---- the names of a module and of an entry

abbrev pub op_named : ℕ → OpTree → List Declared
op_named at op = record { place = at + 1; name = op.name; meaning = Operation op.arguments op.results } ∷ []

abbrev pub var_named : ℕ → VarTree → List Declared
var_named at var = record { place = at + 1; name = var.name; meaning = Variable var.kind } ∷ []

abbrev pub entry_named : ℕ → EntryTree → List Declared
entry_named at entry = record { place = at + 1; name = entry.name; meaning = Entry } ∷ []

-- ops, params, vars and entries share one space of names; the module's own name is none of them
abbrev pub module_names : ModuleTree → List Declared
module_names m = each_at op_size op_named ops_at m.ops
    ++ each_at var_size var_named (params_at m) m.params
    ++ each_at var_size var_named (vars_at m) m.vars
    ++ each_at entry_size entry_named (entries_at m) m.entries

abbrev pub module_scope : ModuleTree → Scope
module_scope m = meaning_in (module_names m)

-- parameters have the types of the op's arguments; one without an argument is an int
abbrev pub parameters_named : ℕ → List (List ℕ) → List TypeName → List Declared
parameters_named at [] ts = []
parameters_named at (n ∷ ns) [] = record { place = at; name = n; meaning = Variable types.Int } ∷ parameters_named (at + 2) ns []
parameters_named at (n ∷ ns) (t ∷ ts) = record { place = at; name = n; meaning = Variable t } ∷ parameters_named (at + 2) ns ts

-- the types of an op, none where it is not known
abbrev pub known : Option (List TypeName) → List TypeName
known None = []
known (Some ts) = ts

-- the names of an entry that begins at this token: its parameters and its vars
abbrev pub local_names : Scope → ℕ → EntryTree → List Declared
local_names outside at entry = parameters_named (parameters_at at) entry.parameters (known (arguments_of (outside entry.op)))
    ++ each_at var_size var_named (locals_at at entry) entry.vars
