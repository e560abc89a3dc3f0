use Rattle.std.proofs.Common.{◌≡◌, ℕ, ◌+◌, ◌++◌, List, length, map, drop}
use Rattle.std.specs.List.{flat_map}
use Rattle.lynx_tree.specs.Grammar.{op_marks}
use Rattle.lynx_tree.specs.Trees.{op_tree}
use Rattle.typing_rules.specs.Meanings.{look}
use Rattle.typing_rules.specs.Modules.{op_faults}
use Rattle.typing_rules.specs.Names.{each_at, op_size, op_named}
use Rattle.typing_rules.specs.Progress.{first_with}
use Rattle.lynx_types.specs.News.{then_declared, news_faults}
use Rattle.lynx_types.proofs.declaration.ops.Given as goal

-- what was seen and what is left are the whole
abbrev pub invariant-loop-item : goal.invariant-loop-item
invariant-loop-item l = record {
  at : l.walk.at + length (flat_map op_marks (map op_tree (drop l.item-index l.ops))) ≡ l.initial.walk.at + length (flat_map op_marks (map op_tree l.ops));
  first : first_with l.walk.first (news_faults 1 (look l.names) (each_at op_size op_named l.walk.at (map op_tree (drop l.item-index l.ops))) ++ each_at op_size op_faults l.walk.at (map op_tree (drop l.item-index l.ops)))
      ≡ first_with l.initial.walk.first (news_faults 1 (look l.initial.names) (each_at op_size op_named l.initial.walk.at (map op_tree l.ops)) ++ each_at op_size op_faults l.initial.walk.at (map op_tree l.ops));
  names : (q : List ℕ) → then_declared (look l.names) (each_at op_size op_named l.walk.at (map op_tree (drop l.item-index l.ops))) q ≡ then_declared (look l.initial.names) (each_at op_size op_named l.initial.walk.at (map op_tree l.ops)) q;
}
