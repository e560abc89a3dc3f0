-- Parts of entries, and their faults.
use Rattle.std.specs.Prelude.{ℕ, ◌+◌, List, ◌++◌, Bool, Option, is_some}
use Rattle.lynx_tree.specs.declared.declaration.TypeName.{TypeName}
use Rattle.typing_rules.specs.Rules.{Fault, demand, is_number_of}

-- the faults of an entry up to its parameters, of which it is told whether its name is new, how many parameters it has,
-- and the types of its op's arguments, where they are known
abbrev pub heading_faults : ℕ → Bool → ℕ → Option (List TypeName) → List Fault
heading_faults at new parameters arguments =
    demand 1 (at + 1) new ++ demand 7 (at + 1) (is_number_of parameters arguments) ++ demand 6 (at + 3) (is_some arguments)
