use Rattle.std.proofs.Common.{[], ◌++◌, List, ℕ, map, length, ap, subst, sym, ◌∙◌, arith}
use Rattle.std.proofs.lemmas.List.{map-append, length-map}
use Rattle.lynx_tree.specs.Trees.{VarTree, OpTree, EntryTree, var_tree, op_tree, entry_tree, module_tree}
use Rattle.compiler_emission.specs.Places.{IsTableOf}
use Rattle.compiler_emission.proofs.Sizes.{few_variables, few_ops}
use Rattle.compiler_emission.proofs.naming.add_each.Goals as goal

pub add_vars-requires : goal.add_vars-requires
add_vars-requires c =
    let t = c.args.tree.now in
    omega (arith, c.requires.empty.0.count, few_variables (module_tree t) c.requires.fits, ap length c.deref.ensures.value, length-map t.params.items var_tree)

pub add_vars-requires-2 : goal.add_vars-requires-2
add_vars-requires-2 c =
    let t = c.args.tree.now in
    let named = c.in_ok-add_vars.ensures [] c.requires.empty.0 in
    omega (
      arith,
      named.count,
      few_variables (module_tree t) c.requires.fits,
      ap length c.deref.ensures.value,
      ap length c.deref-2.ensures.value,
      length-map t.params.items var_tree,
      length-map t.vars.items var_tree,
      length-map (map var_tree c.deref.result.now) (λ (v : VarTree). v.name),
      length-map c.deref.result.now var_tree,
    )

pub add_ops-requires : goal.add_ops-requires
add_ops-requires c =
    let t = c.args.tree.now in
    omega (arith, c.requires.empty.1.count, few_ops (module_tree t) c.requires.fits, ap length c.deref-3.ensures.value, length-map t.ops.items op_tree)

pub add_entries-requires : goal.add_entries-requires
add_entries-requires c = omega (arith, c.requires.empty.2.count, c.requires.short, ap length c.deref-4.ensures.value)

pub returns-clause-globals : goal.returns-clause-globals
returns-clause-globals c =
    let t = c.args.tree.now in
    let named = c.in_ok-add_vars-2.ensures (map (λ (v : VarTree). v.name) (map var_tree c.deref.result.now)) (c.in_ok-add_vars.ensures [] c.requires.empty.0) in
    subst (λ (names : List (List ℕ)). IsTableOf names c.add_vars-2.new.self)
    ((λ i. map (λ (v : VarTree). v.name) (map var_tree (c.deref.ensures.value i)) ++ map (λ (v : VarTree). v.name) (map var_tree (c.deref-2.ensures.value i)))
    ∙ sym (map-append (λ (v : VarTree). v.name) (map var_tree t.params.items) (map var_tree t.vars.items))) named

pub returns-clause-ops : goal.returns-clause-ops
returns-clause-ops c =
    subst (λ (names : List (List ℕ)). IsTableOf names c.add_ops.new.self) (λ i. map (λ (op : OpTree). op.name) (map op_tree (c.deref-3.ensures.value i))) (c.in_ok-add_ops.ensures [] c.requires.empty.1)

pub returns-clause-entries : goal.returns-clause-entries
returns-clause-entries c =
    subst (λ (names : List (List ℕ)). IsTableOf names c.add_entries.new.table) (λ i. map (λ (e : EntryTree). e.name) (map entry_tree (c.deref-4.ensures.value i))) (c.in_ok-add_entries.ensures [] c.requires.empty.2)
