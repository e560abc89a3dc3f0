-- What names mean by the typing rules, and where the code finds them.
use Rattle.std.proofs.Common.{◌≡◌, ℕ, suc, ◌+◌, List, [], ◌∷◌, ◌++◌, length, map, Bool, true, false, Option, Some, None, if◌then◌else◌, bytes_eq, option_map, unwrap_or, slice_get, refl, sym, ap, ◌∙◌, subst, append_assoc, suc-ne-zero, arith, ◌<◌, zero-lt-suc}
use Rattle.std.proofs.lemmas.Option.{none-some, same_Some}
use Rattle.lynx_tree.specs.Trees.{EntryTree, ModuleTree, OpTree, VarTree}
use Rattle.lynx_tree.specs.declared.declaration.TypeName.{TypeName}
use Rattle.typing_rules.specs.Names.{Declared, Meaning, Variable, Operation, Entry, arguments_of, each_at, entries_at, entry_named, entry_size, inside, known, local_names, locals_at, meaning_in}
use Rattle.typing_rules.specs.Names.{module_scope, op_named, op_size, ops_at, or_outside, parameters_at, parameters_named, params_at, results_of, type_of_variable, var_named, var_size, vars_at, is_entry}
use Rattle.lynx_code.specs.Modules.{global_names, op_names, place_in, index_of, slot_at, variables, entry_names}
use Rattle.lynx_code.specs.Modules as modules
use Rattle.compiler_expressions.specs.Setting.{type_at}
use Rattle.compiler_expressions.proofs.Clean.{no-false}

meaning-append : (xs ys : List Declared) (name : List ℕ) → meaning_in (xs ++ ys) name ≡ or_outside (meaning_in xs name) (meaning_in ys name)
meaning-append [] ys name = refl
meaning-append (d ∷ xs) ys name = step (bytes_eq d.name name) (meaning-append xs ys name)
  where
    step : (b : Bool) → meaning_in (xs ++ ys) name ≡ or_outside (meaning_in xs name) (meaning_in ys name) → (if b then Some d.meaning else meaning_in (xs ++ ys) name) ≡ or_outside (if b then Some d.meaning else meaning_in xs name) (meaning_in ys name)
    step true rest = refl
    step false rest = rest

-- ---- variables

-- a name means a variable just where it has a place, and the type stands there
abbrev HasPlace : Option Meaning → Option ℕ → List TypeName → Type 0
HasPlace None None ts = Unit {0}
HasPlace (Some (Variable t)) (Some k) ts = slice_get ts k ≡ Some t
HasPlace _ _ ts = ⊥

one-more : (b : Bool) (t : TypeName) (meaning : Option Meaning) (place : Option ℕ) (ts : List TypeName) → HasPlace meaning place ts → HasPlace (if b then Some (Variable t) else meaning) (if b then Some 0 else option_map (λ k. k + 1) place) (t ∷ ts)
one-more true t meaning place ts h = refl
one-more false t None None ts h = tt
one-more false t (Some (Variable u)) (Some k) ts h = let next : suc k ≡ k + 1 = omega arith in subst (λ (n : ℕ). slice_get (t ∷ ts) n ≡ Some u) next h
one-more false t None (Some k) ts h = absurd h
one-more false t (Some (Variable u)) None ts h = absurd h
one-more false t (Some (Operation left rs)) place ts h = absurd h
one-more false t (Some Entry) place ts h = absurd h

look-vars : (vs : List VarTree) (at : ℕ) (name : List ℕ) → HasPlace (meaning_in (each_at var_size var_named at vs) name) (place_in (map (λ v. v.name) vs) name) (map (λ v. v.kind) vs)
look-vars [] at name = tt
look-vars (v ∷ vs) at name = one-more (bytes_eq v.name name) v.kind (meaning_in (each_at var_size var_named (at + var_size v) vs) name) (place_in (map (λ u. u.name) vs) name) (map (λ u. u.kind) vs) (look-vars vs (at + var_size v) name)

look-two : (ps vs : List VarTree) (at behind : ℕ) (name : List ℕ) → HasPlace (meaning_in (each_at var_size var_named at ps ++ each_at var_size var_named behind vs) name) (place_in (map (λ v. v.name) (ps ++ vs)) name) (map (λ v. v.kind) (ps ++ vs))
look-two [] vs at behind name = look-vars vs behind name
look-two (p ∷ ps) vs at behind name =
    one-more (bytes_eq p.name name) p.kind (meaning_in (each_at var_size var_named (at + var_size p) ps ++ each_at var_size var_named behind vs) name) (place_in (map (λ u. u.name) (ps ++ vs)) name) (map (λ u. u.kind) (ps ++ vs)) (look-two ps vs (at + var_size p) behind name)

look-locals : (ns : List (List ℕ)) (ts : List TypeName) (vs : List VarTree) (at behind : ℕ) (name : List ℕ) → length ns ≡ length ts
    → HasPlace (meaning_in (parameters_named at ns ts ++ each_at var_size var_named behind vs) name) (place_in (ns ++ map (λ v. v.name) vs) name) (ts ++ map (λ v. v.kind) vs)
look-locals [] [] vs at behind name long = look-vars vs behind name
look-locals [] (t ∷ ts) vs at behind name long = absurd (suc-ne-zero (length ts) (sym long))
look-locals (n ∷ ns) [] vs at behind name long = absurd (suc-ne-zero (length ns) long)
look-locals (n ∷ ns) (t ∷ ts) vs at behind name long =
    let fewer : length ns ≡ length ts = omega (arith, long) in
    one-more (bytes_eq n name) t (meaning_in (parameters_named (at + 2) ns ts ++ each_at var_size var_named behind vs) name) (place_in (ns ++ map (λ u. u.name) vs) name) (ts ++ map (λ u. u.kind) vs) (look-locals ns ts vs (at + 2) behind name fewer)

-- ---- operations

abbrev HasNumber : Option Meaning → Option ℕ → List OpTree → Type 0
HasNumber None None ops = Unit {0}
HasNumber (Some (Operation left rs)) (Some k) ops = (op : OpTree) × (slice_get ops k ≡ Some op) × (op.arguments ≡ left) × (op.results ≡ rs)
HasNumber _ _ ops = ⊥

one-op-more : (b : Bool) (op : OpTree) (meaning : Option Meaning) (place : Option ℕ) (ops : List OpTree) → HasNumber meaning place ops → HasNumber (if b then Some (Operation op.arguments op.results) else meaning) (if b then Some 0 else option_map (λ k. k + 1) place) (op ∷ ops)
one-op-more true op meaning place ops h = (op, refl, refl, refl)
one-op-more false op None None ops h = tt
one-op-more false op (Some (Operation left rs)) (Some k) ops h = let next : suc k ≡ k + 1 = omega arith in (h.0, subst (λ (n : ℕ). slice_get (op ∷ ops) n ≡ Some h.0) next h.1, h.2, h.3)
one-op-more false op None (Some k) ops h = absurd h
one-op-more false op (Some (Operation left rs)) None ops h = absurd h
one-op-more false op (Some (Variable t)) place ops h = absurd h
one-op-more false op (Some Entry) place ops h = absurd h

look-ops : (ops : List OpTree) (at : ℕ) (name : List ℕ) → HasNumber (meaning_in (each_at op_size op_named at ops) name) (place_in (map (λ o. o.name) ops) name) ops
look-ops [] at name = tt
look-ops (op ∷ ops) at name = one-op-more (bytes_eq op.name name) op (meaning_in (each_at op_size op_named (at + op_size op) ops) name) (place_in (map (λ o. o.name) ops) name) ops (look-ops ops (at + op_size op) name)

-- ---- entries

abbrev IsNoneOrEntry : Option Meaning → Type 0
IsNoneOrEntry None = Unit {0}
IsNoneOrEntry (Some Entry) = Unit {0}
IsNoneOrEntry _ = ⊥

one-entry-more : (b : Bool) (meaning : Option Meaning) → IsNoneOrEntry meaning → IsNoneOrEntry (if b then Some Entry else meaning)
one-entry-more true meaning h = tt
one-entry-more false meaning h = h

look-entries : (es : List EntryTree) (at : ℕ) (name : List ℕ) → IsNoneOrEntry (meaning_in (each_at entry_size entry_named at es) name)
look-entries [] at name = tt
look-entries (e ∷ es) at name = one-entry-more (bytes_eq e.name name) (meaning_in (each_at entry_size entry_named (at + entry_size e) es) name) (look-entries es (at + entry_size e) name)

-- ---- the names of a module

module-meaning : (m : ModuleTree) (name : List ℕ) → module_scope m name
    ≡ or_outside (or_outside (meaning_in (each_at op_size op_named ops_at m.ops) name) (meaning_in (each_at var_size var_named (params_at m) m.params ++ each_at var_size var_named (vars_at m) m.vars) name)) (meaning_in (each_at entry_size entry_named (entries_at m) m.entries) name)
module-meaning m name =
    let o = each_at op_size op_named ops_at m.ops in
    let p = each_at var_size var_named (params_at m) m.params in
    let v = each_at var_size var_named (vars_at m) m.vars in
    let e = each_at entry_size entry_named (entries_at m) m.entries in
    ap (λ (l : List Declared). meaning_in (l ++ e) name) (append_assoc o p v)
    ∙ meaning-append (o ++ (p ++ v)) e name
    ∙ ap (λ (x : Option Meaning). or_outside x (meaning_in e name)) (meaning-append o (p ++ v) name)

-- a variable of the module
outside-variable : (o pv e : Option Meaning) (number place : Option ℕ) (ops : List OpTree) (ts : List TypeName) (t : TypeName) → HasNumber o number ops → HasPlace pv place ts → IsNoneOrEntry e → type_of_variable (or_outside (or_outside o pv) e) ≡ Some t → slice_get ts (unwrap_or place 0) ≡ Some t
outside-variable None None None number place ops ts t ho hp he is = absurd (none-some t is)
outside-variable None None (Some Entry) number place ops ts t ho hp he is = absurd (none-some t is)
outside-variable None None (Some (Variable u)) number place ops ts t ho hp he is = absurd he
outside-variable None None (Some (Operation left rs)) number place ops ts t ho hp he is = absurd he
outside-variable None (Some (Variable u)) e number (Some k) ops ts t ho hp he is = hp ∙ is
outside-variable None (Some (Variable u)) e number None ops ts t ho hp he is = absurd hp
outside-variable None (Some (Operation left rs)) e number place ops ts t ho hp he is = absurd hp
outside-variable None (Some Entry) e number place ops ts t ho hp he is = absurd hp
outside-variable (Some (Operation left rs)) pv e number place ops ts t ho hp he is = absurd (none-some t is)
outside-variable (Some (Variable u)) pv e number place ops ts t ho hp he is = absurd ho
outside-variable (Some Entry) pv e number place ops ts t ho hp he is = absurd ho

pub module-variable : (m : ModuleTree) (name : List ℕ) (t : TypeName) → type_of_variable (module_scope m name) ≡ Some t → slice_get (map (λ v. v.kind) (variables m)) (index_of (global_names m) name) ≡ Some t
module-variable m name t is =
    outside-variable (meaning_in (each_at op_size op_named ops_at m.ops) name) (meaning_in (each_at var_size var_named (params_at m) m.params ++ each_at var_size var_named (vars_at m) m.vars) name) (meaning_in (each_at entry_size entry_named (entries_at m) m.entries) name)
    (place_in (op_names m) name) (place_in (global_names m) name) m.ops (map (λ v. v.kind) (variables m)) t
    (look-ops m.ops ops_at name) (look-two m.params m.vars (params_at m) (vars_at m) name) (look-entries m.entries (entries_at m) name)
    (ap type_of_variable (sym (module-meaning m name)) ∙ is)

-- an operation of the module
outside-operation : (o pv e : Option Meaning) (number place : Option ℕ) (ops : List OpTree) (arguments vs : List TypeName) → HasNumber o number ops → HasPlace pv place vs → IsNoneOrEntry e → arguments_of (or_outside (or_outside o pv) e) ≡ Some arguments
    → (op : OpTree) × (slice_get ops (unwrap_or number 0) ≡ Some op) × (op.arguments ≡ arguments) × (results_of (or_outside (or_outside o pv) e) ≡ Some op.results)
outside-operation None None None number place ops arguments vs ho hp he is = absurd (none-some arguments is)
outside-operation None None (Some Entry) number place ops arguments vs ho hp he is = absurd (none-some arguments is)
outside-operation None None (Some (Variable u)) number place ops arguments vs ho hp he is = absurd he
outside-operation None None (Some (Operation left rs)) number place ops arguments vs ho hp he is = absurd he
outside-operation None (Some (Variable u)) e number place ops arguments vs ho hp he is = absurd (none-some arguments is)
outside-operation None (Some (Operation left rs)) e number place ops arguments vs ho hp he is = absurd hp
outside-operation None (Some Entry) e number place ops arguments vs ho hp he is = absurd hp
outside-operation (Some (Operation left rs)) pv e (Some k) place ops arguments vs ho hp he is = (ho.0, ho.1, ho.2 ∙ same_Some left arguments is, ap Some (sym ho.3))
outside-operation (Some (Operation left rs)) pv e None place ops arguments vs ho hp he is = absurd ho
outside-operation (Some (Variable u)) pv e number place ops arguments vs ho hp he is = absurd ho
outside-operation (Some Entry) pv e number place ops arguments vs ho hp he is = absurd ho

pub module-operation : (m : ModuleTree) (name : List ℕ) (arguments : List TypeName) → arguments_of (module_scope m name) ≡ Some arguments → (op : OpTree) × (slice_get m.ops (index_of (op_names m) name) ≡ Some op) × (op.arguments ≡ arguments) × (results_of (module_scope m name) ≡ Some op.results)
module-operation m name arguments is =
    let found = outside-operation (meaning_in (each_at op_size op_named ops_at m.ops) name) (meaning_in (each_at var_size var_named (params_at m) m.params ++ each_at var_size var_named (vars_at m) m.vars) name) (meaning_in (each_at entry_size entry_named (entries_at m) m.entries) name)
    (place_in (op_names m) name) (place_in (global_names m) name) m.ops arguments (map (λ v. v.kind) (variables m))
    (look-ops m.ops ops_at name) (look-two m.params m.vars (params_at m) (vars_at m) name) (look-entries m.entries (entries_at m) name)
    (ap arguments_of (sym (module-meaning m name)) ∙ is) in
    (found.0, found.1, found.2, ap results_of (module-meaning m name) ∙ found.3)

-- an entry of the module
one-entry-placed : (b : Bool) (meaning : Option Meaning) (place : Option ℕ) (n : ℕ) → (is_entry meaning ≡ true → unwrap_or place 0 < n) → is_entry (if b then Some Entry else meaning) ≡ true
    → unwrap_or (if b then Some 0 else option_map (λ k. k + 1) place) 0 < suc n
one-entry-placed true meaning place n h is = zero-lt-suc n
one-entry-placed false meaning None n h is = zero-lt-suc n
one-entry-placed false meaning (Some k) n h is =
    let less : k < n = h is in
    let next : k + 1 < suc n = omega (arith, less) in
    next

entries-placed : (es : List EntryTree) (at : ℕ) (name : List ℕ) → is_entry (meaning_in (each_at entry_size entry_named at es) name) ≡ true → index_of (map (λ e. e.name) es) name < length es
entries-placed [] at name is = no-false is
entries-placed (e ∷ es) at name is =
    one-entry-placed (bytes_eq e.name name) (meaning_in (each_at entry_size entry_named (at + entry_size e) es) name) (place_in (map (λ x. x.name) es) name) (length es) (entries-placed es (at + entry_size e) name) is

outside-entry : (o pv e : Option Meaning) (number place : Option ℕ) (ops : List OpTree) (vs : List TypeName) → HasNumber o number ops → HasPlace pv place vs → is_entry (or_outside (or_outside o pv) e) ≡ true → is_entry e ≡ true
outside-entry None None e number place ops vs ho hp is = is
outside-entry None (Some (Variable u)) e number place ops vs ho hp is = no-false is
outside-entry None (Some (Operation left rs)) e number place ops vs ho hp is = no-false is
outside-entry None (Some Entry) e number place ops vs ho hp is = absurd hp
outside-entry (Some (Operation left rs)) pv e number place ops vs ho hp is = no-false is
outside-entry (Some (Variable u)) pv e number place ops vs ho hp is = no-false is
outside-entry (Some Entry) pv e number place ops vs ho hp is = absurd ho

pub module-entry : (m : ModuleTree) (name : List ℕ) → is_entry (module_scope m name) ≡ true → index_of (entry_names m) name < length m.entries
module-entry m name is =
    entries-placed m.entries (entries_at m) name
    (outside-entry (meaning_in (each_at op_size op_named ops_at m.ops) name) (meaning_in (each_at var_size var_named (params_at m) m.params ++ each_at var_size var_named (vars_at m) m.vars) name) (meaning_in (each_at entry_size entry_named (entries_at m) m.entries) name)
    (place_in (op_names m) name) (place_in (global_names m) name) m.ops (map (λ v. v.kind) (variables m)) (look-ops m.ops ops_at name) (look-two m.params m.vars (params_at m) (vars_at m) name)
    (ap is_entry (sym (module-meaning m name)) ∙ is))

-- ---- the names of an entry

inside-variable : (l o : Option Meaning) (place : Option ℕ) (outside : ℕ) (gs ls : List TypeName) (t : TypeName) → HasPlace l place ls → (type_of_variable o ≡ Some t → slice_get gs outside ≡ Some t) → type_of_variable (or_outside l o) ≡ Some t → type_at gs ls (slot_at place outside) ≡ Some t
inside-variable None o None outside gs ls t h on is = on is
inside-variable (Some (Variable u)) o (Some k) outside gs ls t h on is = h ∙ is
inside-variable None o (Some k) outside gs ls t h on is = absurd h
inside-variable (Some (Variable u)) o None outside gs ls t h on is = absurd h
inside-variable (Some (Operation left rs)) o place outside gs ls t h on is = absurd h
inside-variable (Some Entry) o place outside gs ls t h on is = absurd h

pub main-variable : (m : ModuleTree) (name : List ℕ) (t : TypeName) → type_of_variable (module_scope m name) ≡ Some t → type_at (map (λ v. v.kind) (variables m)) [] (slot_at (place_in [] name) (index_of (global_names m) name)) ≡ Some t
main-variable m name t is = module-variable m name t is

pub entry-variable : (m : ModuleTree) (at : ℕ) (e : EntryTree) (name : List ℕ) (t : TypeName) → length e.parameters ≡ length (known (arguments_of (module_scope m e.op))) → type_of_variable (inside (local_names (module_scope m) at e) (module_scope m) name) ≡ Some t
    → type_at (map (λ v. v.kind) (variables m)) (known (arguments_of (module_scope m e.op)) ++ map (λ v. v.kind) e.vars) (slot_at (place_in (modules.local_names e) name) (index_of (global_names m) name)) ≡ Some t
entry-variable m at e name t long is =
    inside-variable (meaning_in (local_names (module_scope m) at e) name) (module_scope m name) (place_in (modules.local_names e) name) (index_of (global_names m) name) (map (λ v. v.kind) (variables m)) (known (arguments_of (module_scope m e.op)) ++ map (λ v. v.kind) e.vars) t
    (look-locals e.parameters (known (arguments_of (module_scope m e.op))) e.vars (parameters_at at) (locals_at at e) name long) (module-variable m name t) is

inside-operation : (l o : Option Meaning) (place : Option ℕ) (ls : List TypeName) (arguments : List TypeName) (Q : Option (List TypeName) → Type 0) → HasPlace l place ls → (arguments_of o ≡ Some arguments → Q (results_of o)) → arguments_of (or_outside l o) ≡ Some arguments
    → Q (results_of (or_outside l o))
inside-operation None o place ls arguments Q h on is = on is
inside-operation (Some (Variable u)) o place ls arguments Q h on is = absurd (none-some arguments is)
inside-operation (Some (Operation left rs)) o place ls arguments Q h on is = absurd h
inside-operation (Some Entry) o place ls arguments Q h on is = absurd h

pub entry-operation : (m : ModuleTree) (at : ℕ) (e : EntryTree) (name : List ℕ) (arguments : List TypeName) → length e.parameters ≡ length (known (arguments_of (module_scope m e.op))) → arguments_of (inside (local_names (module_scope m) at e) (module_scope m) name) ≡ Some arguments
    → (op : OpTree) × (slice_get m.ops (index_of (op_names m) name) ≡ Some op) × (op.arguments ≡ arguments) × (results_of (inside (local_names (module_scope m) at e) (module_scope m) name) ≡ Some op.results)
entry-operation m at e name arguments long is =
    inside-operation (meaning_in (local_names (module_scope m) at e) name) (module_scope m name) (place_in (modules.local_names e) name) (known (arguments_of (module_scope m e.op)) ++ map (λ v. v.kind) e.vars) arguments
    (λ r. (op : OpTree) × (slice_get m.ops (index_of (op_names m) name) ≡ Some op) × (op.arguments ≡ arguments) × (r ≡ Some op.results))
    (look-locals e.parameters (known (arguments_of (module_scope m e.op))) e.vars (parameters_at at) (locals_at at e) name long) (module-operation m name arguments) is

inside-entry : (l o : Option Meaning) (place : Option ℕ) (ls : List TypeName) → HasPlace l place ls → is_entry (or_outside l o) ≡ true → is_entry o ≡ true
inside-entry None o place ls h is = is
inside-entry (Some (Variable u)) o place ls h is = no-false is
inside-entry (Some (Operation left rs)) o place ls h is = no-false is
inside-entry (Some Entry) o place ls h is = absurd h

pub entry-entry : (m : ModuleTree) (at : ℕ) (e : EntryTree) (name : List ℕ) → length e.parameters ≡ length (known (arguments_of (module_scope m e.op))) → is_entry (inside (local_names (module_scope m) at e) (module_scope m) name) ≡ true
    → index_of (entry_names m) name < length m.entries
entry-entry m at e name long is =
    module-entry m name
    (inside-entry (meaning_in (local_names (module_scope m) at e) name) (module_scope m name) (place_in (modules.local_names e) name) (known (arguments_of (module_scope m e.op)) ++ map (λ v. v.kind) e.vars)
    (look-locals e.parameters (known (arguments_of (module_scope m e.op))) e.vars (parameters_at at) (locals_at at e) name long) is)
