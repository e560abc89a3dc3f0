use Rattle.std.proofs.Common.{◌≡◌, ℕ, ◌+◌, ◌++◌, List, length, map, drop}
use Rattle.std.specs.List.{flat_map}
use Rattle.lynx_lexer.specs.declared.keyword.Keyword.TheVariants as keywords
use Rattle.lynx_tree.specs.Grammar.{var_marks}
use Rattle.lynx_tree.specs.Trees.{var_tree}
use Rattle.typing_rules.specs.Meanings.{look}
use Rattle.typing_rules.specs.Modules.{param_faults}
use Rattle.typing_rules.specs.Names.{each_at, var_size, var_named}
use Rattle.typing_rules.specs.Progress.{first_with}
use Rattle.lynx_types.specs.News.{then_declared, news_faults}
use Rattle.lynx_types.proofs.declaration.params.Given as goal

-- what was seen and what is left are the whole
abbrev pub invariant-loop-param : goal.invariant-loop-param
invariant-loop-param l = record {
  at : l.walk.at + length (flat_map (var_marks keywords.Param) (map var_tree (drop l.param-index l.params))) ≡ l.initial.walk.at + length (flat_map (var_marks keywords.Param) (map var_tree l.params));
  first : first_with l.walk.first (news_faults 1 (look l.names) (each_at var_size var_named l.walk.at (map var_tree (drop l.param-index l.params))) ++ each_at var_size param_faults l.walk.at (map var_tree (drop l.param-index l.params)))
      ≡ first_with l.initial.walk.first (news_faults 1 (look l.initial.names) (each_at var_size var_named l.initial.walk.at (map var_tree l.params)) ++ each_at var_size param_faults l.initial.walk.at (map var_tree l.params));
  names : (q : List ℕ) → then_declared (look l.names) (each_at var_size var_named l.walk.at (map var_tree (drop l.param-index l.params))) q ≡ then_declared (look l.initial.names) (each_at var_size var_named l.initial.walk.at (map var_tree l.params)) q;
}
