-- Rows have lengths where no rule fails, and params are links.
use Rattle.std.proofs.Common.{◌≡◌, ℕ, ◌+◌, List, [], ◌∷◌, ◌++◌, length, map, replicate, true, refl, ap, ◌∙◌}
use Rattle.lynx_tree.specs.Grammar.{type_marks, types_marks}
use Rattle.lynx_tree.specs.Trees.{ModuleTree, OpTree, VarTree}
use Rattle.lynx_tree.specs.declared.declaration.TypeName.{TypeName}
use Rattle.lynx_tree.specs.declared.declaration.TypeName.TheVariants as types
use Rattle.typing_rules.specs.Modules.{module_faults, entry_faults, names_are_new, op_faults, param_faults, type_faults, types_faults, var_faults}
use Rattle.typing_rules.specs.Names.{body_at, each_at, entries_at, entry_size, module_names, module_scope, op_size, ops_at, params_at, var_size, vars_at}
use Rattle.typing_rules.specs.Rules.{Outside, module_name_is_new, op_fits_packets, op_has_few_links, param_is_link}
use Rattle.typing_rules.specs.Statements.{stmts_faults}
use Rattle.typing_rules.specs.Types.{has_length, is_link}
use Rattle.compiler_expressions.proofs.Clean.{both-clean, demand-met}
use Rattle.compiler_runnable.specs.Runnable.{HaveStarts}

pub both_start : (ts us : List TypeName) → HaveStarts ts → HaveStarts us → HaveStarts (ts ++ us)
both_start [] us h k = k
both_start (t ∷ ts) us h k = (h.0, both_start ts us h.1 k)

pub vars_start : (at : ℕ) (vs : List VarTree) → each_at var_size var_faults at vs ≡ [] → HaveStarts (map (λ v. v.kind) vs)
vars_start at [] clean = tt
vars_start at (v ∷ vs) clean =
    let parts = both-clean (var_faults at v) (each_at var_size var_faults (at + var_size v) vs) clean in
    (demand-met 4 (at + 3 + 1) (has_length v.kind) parts.0, vars_start (at + var_size v) vs parts.1)

pub params_start : (at : ℕ) (vs : List VarTree) → each_at var_size param_faults at vs ≡ [] → HaveStarts (map (λ v. v.kind) vs)
params_start at [] clean = tt
params_start at (v ∷ vs) clean =
    let parts = both-clean (param_faults at v) (each_at var_size param_faults (at + var_size v) vs) clean in
    let of_v = both-clean (param_is_link (at + 3) v.kind) (var_faults at v) parts.0 in
    (demand-met 4 (at + 3 + 1) (has_length v.kind) of_v.1, params_start (at + var_size v) vs parts.1)

a_link : (t : TypeName) → is_link t ≡ true → t ≡ types.Link
a_link types.Int is = cc
a_link types.Bool is = cc
a_link types.Text is = cc
a_link types.Link is = refl
a_link (types.Row n) is = cc

pub params_are_links : (at : ℕ) (vs : List VarTree) → each_at var_size param_faults at vs ≡ [] → map (λ v. v.kind) vs ≡ replicate (length vs) types.Link
params_are_links at [] clean = refl
params_are_links at (v ∷ vs) clean =
    let parts = both-clean (param_faults at v) (each_at var_size param_faults (at + var_size v) vs) clean in
    let of_v = both-clean (param_is_link (at + 3) v.kind) (var_faults at v) parts.0 in
    ap (λ (t : TypeName). t ∷ map (λ v. v.kind) vs) (a_link v.kind (demand-met 3 (at + 3) (is_link v.kind) of_v.0))
    ∙ ap (λ (ts : List TypeName). types.Link ∷ ts) (params_are_links (at + var_size v) vs parts.1)

types_start : (at : ℕ) (ts : List TypeName) → types_faults at ts ≡ [] → HaveStarts ts
types_start at [] clean = tt
types_start at (t ∷ ts) clean =
    let next = at + (length (type_marks 0 t) + 1) in
    let parts = both-clean (type_faults at t) (types_faults next ts) clean in
    (demand-met 4 (at + 1) (has_length t) parts.0, types_start next ts parts.1)

-- the arguments of an operation
pub arguments_start : (at : ℕ) (op : OpTree) → op_faults at op ≡ [] → HaveStarts op.arguments
arguments_start at op clean =
    let f1 = op_has_few_links (at + 1) op in
    let f2 = op_fits_packets (at + 1) op in
    let f3 = types_faults (at + 3) op.arguments in
    let f4 = types_faults (at + length (types_marks op.arguments) + 4) op.results in
    types_start (at + 3) op.arguments (both-clean (f1 ++ f2) f3 (both-clean (f1 ++ f2 ++ f3) f4 clean).0).1

-- ---- the declarations of a module

pub record AreClean (m : ModuleTree) : Type 0 where
  pub ops : each_at op_size op_faults ops_at m.ops ≡ []
  pub params : each_at var_size param_faults (params_at m) m.params ≡ []
  pub vars : each_at var_size var_faults (vars_at m) m.vars ≡ []
  pub entries : each_at entry_size (entry_faults (module_scope m)) (entries_at m) m.entries ≡ []

pub declarations : (m : ModuleTree) → module_faults m ≡ [] → AreClean m
declarations m clean =
    let f1 = names_are_new module_name_is_new [] (module_names m) in
    let f2 = each_at op_size op_faults ops_at m.ops in
    let f3 = each_at var_size param_faults (params_at m) m.params in
    let f4 = each_at var_size var_faults (vars_at m) m.vars in
    let f5 = each_at entry_size (entry_faults (module_scope m)) (entries_at m) m.entries in
    let p5 = both-clean (f1 ++ f2 ++ f3 ++ f4 ++ f5) (stmts_faults (module_scope m) Outside (body_at m) m.body) clean in
    let p4 = both-clean (f1 ++ f2 ++ f3 ++ f4) f5 p5.0 in
    let p3 = both-clean (f1 ++ f2 ++ f3) f4 p4.0 in
    let p2 = both-clean (f1 ++ f2) f3 p3.0 in
    record { ops = (both-clean f1 f2 p2.0).1; params = p2.1; vars = p3.1; entries = p4.1 }
