-- The types of the arguments of an operation, by its place.
use Rattle.std.proofs.Common.{◌≡◌, ℕ, ◌+◌, List, [], ◌∷◌, ◌++◌, map, Bool, true, false, Option, None, Some, refl, sym, ap, ◌∙◌, add-one, append_assoc}
use Rattle.std.specs.Prelude.{if◌then◌else◌, option_map}
use Rattle.std.specs.List.{slice_get}
use Rattle.std.specs.Str.{bytes_eq}
use Rattle.std.proofs.lemmas.Option.{slice_get-map}
use Rattle.lynx_tree.specs.Trees.{OpTree, VarTree, EntryTree, ModuleTree, op_tree}
use Rattle.lynx_tree.specs.declared.declaration.OpDecl.{OpDecl}
use Rattle.lynx_tree.specs.declared.declaration.TypeName.{TypeName}
use Rattle.typing_rules.specs.Names.{Meaning, Variable, Operation, Entry, Declared, meaning_in, arguments_of, known, each_at, op_size, op_named, var_size, var_named, entry_size, entry_named, ops_at, params_at, vars_at, entries_at, module_scope}
use Rattle.lynx_code.specs.Modules.{place_in, op_names}

-- the types that a name has as an operation
abbrev pub types_in : List Declared → List ℕ → List TypeName
types_in ds q = known (arguments_of (meaning_in ds q))

-- ---- where no operation is declared

no_variable : (b : Bool) (t : TypeName) (o : Option Meaning) → known (arguments_of o) ≡ [] → known (arguments_of (if b then Some (Variable t) else o)) ≡ []
no_variable true t o h = refl
no_variable false t o h = h

no_entry : (b : Bool) (o : Option Meaning) → known (arguments_of o) ≡ [] → known (arguments_of (if b then Some Entry else o)) ≡ []
no_entry true o h = refl
no_entry false o h = h

entries_none : (at : ℕ) (es : List EntryTree) (q : List ℕ) → types_in (each_at entry_size entry_named at es) q ≡ []
entries_none at [] q = refl
entries_none at (e ∷ es) q = no_entry (bytes_eq e.name q) (meaning_in (each_at entry_size entry_named (at + entry_size e) es) q) (entries_none (at + entry_size e) es q)

variables_none : (at : ℕ) (vs : List VarTree) (rest : List Declared) (q : List ℕ) → types_in rest q ≡ [] → types_in (each_at var_size var_named at vs ++ rest) q ≡ []
variables_none at [] rest q h = h
variables_none at (v ∷ vs) rest q h = no_variable (bytes_eq v.name q) v.kind (meaning_in (each_at var_size var_named (at + var_size v) vs ++ rest) q) (variables_none (at + var_size v) vs rest q h)

-- ---- where operations are declared

abbrev pub types_of : Option OpTree → List TypeName
types_of None = []
types_of (Some op) = op.arguments

abbrev pub types_at : List OpTree → Option ℕ → List TypeName
types_at ops None = []
types_at ops (Some place) = types_of (slice_get ops place)

one_more : (b : Bool) (op : OpTree) (ops : List OpTree) (p : Option ℕ) (o : Option Meaning) → known (arguments_of o) ≡ types_at ops p
    → known (arguments_of (if b then Some (Operation op.arguments op.results) else o)) ≡ types_at (op ∷ ops) (if b then Some 0 else option_map (λ place. place + 1) p)
one_more true op ops p o h = refl
one_more false op ops None o h = h
one_more false op ops (Some place) o h = h ∙ ap (λ k. types_of (slice_get (op ∷ ops) k)) (sym (add-one place))

operations_found : (at : ℕ) (ops : List OpTree) (rest : List Declared) (q : List ℕ) → types_in rest q ≡ [] → types_in (each_at op_size op_named at ops ++ rest) q ≡ types_at ops (place_in (map (λ op. op.name) ops) q)
operations_found at [] rest q h = h
operations_found at (op ∷ ops) rest q h =
    one_more (bytes_eq op.name q) op ops (place_in (map (λ op. op.name) ops) q) (meaning_in (each_at op_size op_named (at + op_size op) ops ++ rest) q) (operations_found (at + op_size op) ops rest q h)

-- the arguments of the operation of a name
pub arguments_found : (m : ModuleTree) (q : List ℕ) → known (arguments_of (module_scope m q)) ≡ types_at m.ops (place_in (op_names m) q)
arguments_found m q =
    let ops : List Declared = each_at op_size op_named ops_at m.ops in
    let params : List Declared = each_at var_size var_named (params_at m) m.params in
    let vars : List Declared = each_at var_size var_named (vars_at m) m.vars in
    let entries : List Declared = each_at entry_size entry_named (entries_at m) m.entries in
    let nested : ((ops ++ params) ++ vars) ++ entries ≡ ops ++ (params ++ (vars ++ entries)) = append_assoc (ops ++ params) vars entries ∙ append_assoc ops params (vars ++ entries) in
    ap (λ (ds : List Declared). types_in ds q) nested
    ∙ operations_found ops_at m.ops (params ++ (vars ++ entries)) q
    (variables_none (params_at m) m.params (vars ++ entries) q (variables_none (vars_at m) m.vars entries q (entries_none (entries_at m) m.entries q)))

-- ---- the same of operations as they are kept

abbrev pub arguments_in : Option OpDecl → List TypeName
arguments_in None = []
arguments_in (Some op) = op.arguments.items

kept : (o : Option OpDecl) → types_of (option_map op_tree o) ≡ arguments_in o
kept None = refl
kept (Some op) = refl

pub none_there : (m : ModuleTree) (q : List ℕ) → place_in (op_names m) q ≡ None → known (arguments_of (module_scope m q)) ≡ []
none_there m q h = arguments_found m q ∙ ap (types_at m.ops) h

pub some_there : (m : ModuleTree) (ops : List OpDecl) (q : List ℕ) (place : ℕ) → m.ops ≡ map op_tree ops → place_in (op_names m) q ≡ Some place → known (arguments_of (module_scope m q)) ≡ arguments_in (slice_get ops place)
some_there m ops q place are there =
    arguments_found m q ∙ ap (types_at m.ops) there ∙ ap (λ (xs : List OpTree). types_of (slice_get xs place)) are ∙ ap types_of (slice_get-map op_tree ops place) ∙ kept (slice_get ops place)
