-- Parts of statements, and their faults.
use Rattle.std.specs.Prelude.{ℕ, ◌+◌, List, [], ◌∷◌, ◌++◌, length, Option, None, Some}
use Rattle.lynx_tree.specs.declared.declaration.TypeName.{TypeName}
use Rattle.lynx_tree.specs.Trees.{ExprTree, StmtTree, Assign, AssignMember}
use Rattle.typing_rules.specs.Names.{Scope, type_of_variable, arguments_of, known}
use Rattle.typing_rules.specs.Rules.{Fault, wants, is_variable, is_op, accept_has_names, accept_name_fits}
use Rattle.typing_rules.specs.Expressions.{expr_faults, value_faults}
use Rattle.typing_rules.specs.Statements.{link_faults, names_faults}

-- the faults of a value that should be of the first of the types, if there is one
abbrev pub typed_value : ℕ → Scope → ℕ → ExprTree → List TypeName → List Fault
typed_value rule scope at e [] = expr_faults scope at e
typed_value rule scope at e (t ∷ ts) = value_faults (wants rule t) scope at e

-- the same of a name
abbrev pub typed_name : ℕ → Scope → ℕ → List ℕ → List TypeName → List Fault
typed_name rule scope at n [] = is_variable at (scope n)
typed_name rule scope at n (t ∷ ts) = is_variable at (scope n) ++ wants rule t at (type_of_variable (scope n))

-- an assignment, to a member where there is an index
abbrev pub assigned_tree : List ℕ → Option ExprTree → ExprTree → StmtTree
assigned_tree n None value = Assign n value
assigned_tree n (Some index) value = AssignMember n index value

-- the faults of an accept up to its body
abbrev pub accept_faults : Scope → ℕ → List ℕ → List ℕ → List (List ℕ) → List Fault
accept_faults scope at op link names = is_op (at + 1) (scope op)
    ++ accept_has_names (at + 1) (length names) (arguments_of (scope op))
    ++ link_faults scope (at + 3) link
    ++ names_faults accept_name_fits scope (at + 5) names (known (arguments_of (scope op)))
