-- Which names are new where names already stand, and what they all mean afterwards.
use Rattle.std.specs.Prelude.{ℕ, ◌+◌, List, [], ◌∷◌, ◌++◌, length, Bool, not, is_some, None}
use Rattle.lynx_tree.specs.declared.declaration.TypeName.{TypeName}
use Rattle.lynx_tree.specs.declared.declaration.TypeName.TheVariants as types
use Rattle.lynx_tree.specs.Grammar.{names_marks}
use Rattle.lynx_tree.specs.Trees.{EntryTree}
use Rattle.typing_rules.specs.Names.{Declared, Scope, or_outside, meaning_in, parameters_named, each_at, var_size, var_named}
use Rattle.typing_rules.specs.Rules.{Fault, demand}

-- no name stands
abbrev pub nowhere : Scope
nowhere name = None

-- the names of a scope, and those declared behind them
abbrev pub then_declared : Scope → List Declared → Scope
then_declared scope ds name = or_outside (scope name) (meaning_in ds name)

-- the rule fails at each name that stands already
abbrev pub news_faults : ℕ → Scope → List Declared → List Fault
news_faults rule scope [] = []
news_faults rule scope (d ∷ ds) = demand rule d.place (not (is_some (scope d.name))) ++ news_faults rule (then_declared scope (d ∷ [])) ds

-- which of the names are new
abbrev pub are_new : Scope → List Declared → List Bool
are_new scope [] = []
are_new scope (d ∷ ds) = not (is_some (scope d.name)) ∷ are_new (then_declared scope (d ∷ [])) ds

-- the rule fails at each name that is told not to be new
abbrev pub told_faults : ℕ → List Bool → List Declared → List Fault
told_faults rule [] ds = []
told_faults rule (new ∷ news) [] = []
told_faults rule (new ∷ news) (d ∷ ds) = demand rule d.place new ++ told_faults rule news ds

-- the first of the types, and int where there is none
abbrev pub first_or_int : List TypeName → TypeName
first_or_int [] = types.Int
first_or_int (t ∷ ts) = t

-- the names of an entry whose parameters have these types, and whose `(` is this token
abbrev pub locals_named : ℕ → EntryTree → List TypeName → List Declared
locals_named at entry ts =
    parameters_named (at + 1) entry.parameters ts ++ each_at var_size var_named (at + length (names_marks 0 entry.parameters)) entry.vars
