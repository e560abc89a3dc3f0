use Rattle.std.proofs.Common.{[], ◌++◌, List, ℕ, map, length, ap, sym, subst, arith}
use Rattle.std.proofs.lemmas.List.{length-map}
use Rattle.lynx_tree.specs.Grammar.{AreStmts}
use Rattle.lynx_tree.specs.Trees.{VarTree, entry_tree, stmt_list, var_tree}
use Rattle.lynx_code.specs.Modules.{local_names, body_code}
use Rattle.compiler_emission.specs.Places.{IsTableOf}
use Rattle.compiler_emission.proofs.Emitting.{same_ok, same_long}
use Rattle.compiler_emission.proofs.parts.emit_named.Goals as goal

pub add_names-requires : goal.add_names-requires
add_names-requires c = omega (arith, c.requires.empty.count, c.requires.fits.0, ap length c.deref.ensures.value)

pub add_vars-requires : goal.add_vars-requires
add_vars-requires c =
    let named = c.in_ok-add_names.ensures [] c.requires.empty in
    omega (arith, named.count, c.requires.fits.0, ap length c.deref.ensures.value, ap length c.deref-2.ensures.value, length-map c.args.entry.now.vars.items var_tree)

pub emit_body-requires : goal.emit_body-requires
emit_body-requires c = subst (λ xs. AreStmts (stmt_list xs)) (sym c.deref-3.ensures.value) c.requires.fits.1

pub returns-clause-ok : goal.returns-clause-ok
returns-clause-ok c m tables =
    let e = entry_tree c.args.entry.now in
    let o = c.args.code.now.items in
    let all = c.in_ok-add_vars.ensures c.deref.result.now (c.in_ok-add_names.ensures [] c.requires.empty) in
    let named = subst (λ (names : List (List ℕ)). IsTableOf names c.add_vars.new.self) (λ i. c.deref.ensures.value i ++ map (λ (v : VarTree). v.name) (map var_tree (c.deref-2.ensures.value i))) all in
    let same = c.scope.ensures m (local_names e) tables named in
    same_ok c.emit_body.result o c.emit_body.new.code.items _ _ (λ i. body_code (same i) (length o) (stmt_list (c.deref-3.ensures.value i))) c.emit_body.ensures.ok

pub returns-clause-long : goal.returns-clause-long
returns-clause-long c m tables h =
    let e = entry_tree c.args.entry.now in
    let o = c.args.code.now.items in
    let all = c.in_ok-add_vars.ensures c.deref.result.now (c.in_ok-add_names.ensures [] c.requires.empty) in
    let named = subst (λ (names : List (List ℕ)). IsTableOf names c.add_vars.new.self) (λ i. c.deref.ensures.value i ++ map (λ (v : VarTree). v.name) (map var_tree (c.deref-2.ensures.value i))) all in
    let same = c.scope.ensures m (local_names e) tables named in
    same_long o _ _ (λ i. body_code (same i) (length o) (stmt_list (c.deref-3.ensures.value i))) (c.emit_body.ensures.long h)
