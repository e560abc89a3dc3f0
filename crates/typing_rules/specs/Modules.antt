-- The faults of declarations and of a module: which rules fail, and where.
use Rattle.std.specs.Prelude.{◌≡◌, ℕ, ◌+◌, ◌<◌, ◌≤◌, ◌⊎◌, List, [], ◌∷◌, ◌++◌, length, Bool, ◌&&◌}
use Rattle.std.specs.Prelude.{◌||◌, nat_lt, nat_le, ◌==◌, Option, None, Some, if◌then◌else◌, Contains}
use Rattle.lynx_tree.specs.declared.declaration.TypeName.{TypeName}
use Rattle.lynx_tree.specs.Trees.{OpTree, VarTree, EntryTree, ModuleTree}
use Rattle.lynx_tree.specs.Grammar.{type_marks, types_marks}
use Rattle.typing_rules.specs.Names.{Declared, Scope, inside, results_of, each_at, op_size, var_size, entry_size, ops_at, params_at}
use Rattle.typing_rules.specs.Names.{vars_at, entries_at, body_at, locals_at, entry_body_at, module_names, module_scope, local_names}
use Rattle.typing_rules.specs.Rules.{Fault, Outside, Asks, module_name_is_new, local_name_is_new, param_is_link}
use Rattle.typing_rules.specs.Rules.{row_has_length, op_has_few_links, entry_is_of_op, entry_has_parameters, op_fits_packets}
use Rattle.typing_rules.specs.Statements.{stmts_faults}

-- what a rule finds in each name, told the names before it
abbrev pub names_are_new : (List (List ℕ) → ℕ → List ℕ → List Fault) → List (List ℕ) → List Declared → List Fault
names_are_new rule before [] = []
names_are_new rule before (d ∷ ds) = rule before d.place d.name ++ names_are_new rule (d.name ∷ before) ds

-- a type that begins at this token; a row's length is its second token
abbrev pub type_faults : ℕ → TypeName → List Fault
type_faults at t = row_has_length (at + 1) t

-- types with commas between
abbrev pub types_faults : ℕ → List TypeName → List Fault
types_faults at ts = each_at (λ t. length (type_marks 0 t) + 1) type_faults at ts

abbrev pub op_faults : ℕ → OpTree → List Fault
op_faults at op = op_has_few_links (at + 1) op ++ op_fits_packets (at + 1) op
    ++ types_faults (at + 3) op.arguments ++ types_faults (at + length (types_marks op.arguments) + 4) op.results

abbrev pub var_faults : ℕ → VarTree → List Fault
var_faults at var = type_faults (at + 3) var.kind

abbrev pub param_faults : ℕ → VarTree → List Fault
param_faults at param = param_is_link (at + 3) param.kind ++ var_faults at param

-- an entry of a module with these names
abbrev pub entry_faults : Scope → ℕ → EntryTree → List Fault
entry_faults outside at entry = entry_has_parameters (at + 1) (outside entry.op) (length entry.parameters)
    ++ entry_is_of_op (at + 3) (outside entry.op)
    ++ names_are_new local_name_is_new [] (local_names outside at entry)
    ++ each_at var_size var_faults (locals_at at entry) entry.vars
    ++ stmts_faults (inside (local_names outside at entry) outside) (Asks (results_of (outside entry.op)))
    (entry_body_at at entry) entry.body

-- every rule that fails in a module, with each place where it does
abbrev pub module_faults : ModuleTree → List Fault
module_faults m = names_are_new module_name_is_new [] (module_names m)
    ++ each_at op_size op_faults ops_at m.ops
    ++ each_at var_size param_faults (params_at m) m.params
    ++ each_at var_size var_faults (vars_at m) m.vars
    ++ each_at entry_size (entry_faults (module_scope m)) (entries_at m) m.entries
    ++ stmts_faults (module_scope m) Outside (body_at m) m.body

-- the rule fails at the place
abbrev pub FailsAt : ModuleTree → ℕ → ℕ → Type 0
FailsAt m rule at = Contains (module_faults m) (record { place = at; rule = rule })

-- no rule fails at any place
abbrev pub IsWellTyped : ModuleTree → Type 0
IsWellTyped m = (rule at : ℕ) → FailsAt m rule at → ⊥

-- one place is before another, and at one place the lesser rule counts
abbrev pub is_no_later : Fault → Fault → Bool
is_no_later a b = nat_lt a.place b.place || (a.place == b.place && nat_le a.rule b.rule)

-- the first place at which a rule fails, and the least rule that fails there
pub record IsFirstFault (m : ModuleTree) (first : Fault) : Type 0 where
  pub fails : FailsAt m first.rule first.place
  pub least : (rule at : ℕ) → FailsAt m rule at → (first.place < at) ⊎ ((first.place ≡ at) × (first.rule ≤ rule))

-- the first of two faults, and of some
abbrev pub first_of_two : Fault → Option Fault → Fault
first_of_two a None = a
first_of_two a (Some b) = if is_no_later a b then a else b

abbrev pub first_fault : List Fault → Option Fault
first_fault [] = None
first_fault (fault ∷ faults) = Some (first_of_two fault (first_fault faults))
