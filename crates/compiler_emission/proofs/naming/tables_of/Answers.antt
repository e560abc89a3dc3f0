use Rattle.std.proofs.Common.{arith}
use Rattle.std.proofs.lemmas.List.{length-map}
use Rattle.lynx_tree.specs.Trees.{EntryTree, entry_tree, module_tree}
use Rattle.lynx_code.specs.Modules.{entry_names}
use Rattle.compiler_emission.proofs.Placing.{short}
use Rattle.compiler_emission.proofs.naming.tables_of.Goals as goal

pub invariant_of-result : goal.invariant_of-result
invariant_of-result c =
    let m = module_tree c.args.tree.now in
    record {
      short = short (entry_names m) c.add_each.new.entries c.in_ok-add_each.ensures.entries
          (omega (arith, c.requires.short, length-map m.entries (λ (e : EntryTree). e.name), length-map c.args.tree.now.entries.items entry_tree));
    }
