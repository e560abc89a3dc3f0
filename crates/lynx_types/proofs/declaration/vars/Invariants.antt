use Rattle.std.proofs.Common.{◌≡◌, ℕ, ◌+◌, ◌++◌, List, length, map, drop}
use Rattle.std.specs.List.{flat_map}
use Rattle.lynx_lexer.specs.declared.keyword.Keyword.TheVariants as keywords
use Rattle.lynx_tree.specs.Grammar.{var_marks}
use Rattle.lynx_tree.specs.Trees.{var_tree}
use Rattle.typing_rules.specs.Meanings.{look}
use Rattle.typing_rules.specs.Modules.{var_faults}
use Rattle.typing_rules.specs.Names.{each_at, var_size, var_named}
use Rattle.typing_rules.specs.Progress.{first_with}
use Rattle.lynx_types.specs.News.{then_declared, news_faults}
use Rattle.lynx_types.proofs.declaration.vars.Given as goal

-- what was seen and what is left are the whole
abbrev pub invariant-loop-item : goal.invariant-loop-item
invariant-loop-item l = record {
  at : l.walk.at + length (flat_map (var_marks keywords.Var) (map var_tree (drop l.item-index l.vars))) ≡ l.initial.walk.at + length (flat_map (var_marks keywords.Var) (map var_tree l.vars));
  first : first_with l.walk.first (news_faults l.rule (look l.names) (each_at var_size var_named l.walk.at (map var_tree (drop l.item-index l.vars))) ++ each_at var_size var_faults l.walk.at (map var_tree (drop l.item-index l.vars)))
      ≡ first_with l.initial.walk.first (news_faults l.rule (look l.initial.names) (each_at var_size var_named l.initial.walk.at (map var_tree l.vars)) ++ each_at var_size var_faults l.initial.walk.at (map var_tree l.vars));
  names : (q : List ℕ) → then_declared (look l.names) (each_at var_size var_named l.walk.at (map var_tree (drop l.item-index l.vars))) q ≡ then_declared (look l.initial.names) (each_at var_size var_named l.initial.walk.at (map var_tree l.vars)) q;
}
