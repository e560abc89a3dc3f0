use Rattle.std.proofs.Common.{◌≡◌, ℕ, ◌++◌, List, map, drop}
use Rattle.lynx_tree.specs.Trees.{entry_tree}
use Rattle.typing_rules.specs.Meanings.{look}
use Rattle.typing_rules.specs.Names.{each_at, entry_size, entry_named}
use Rattle.lynx_types.specs.News.{then_declared, are_new}
use Rattle.lynx_types.proofs.entry.declare_entries.Given as goal

-- what was told and what is left are the whole
abbrev pub invariant-loop-entry : goal.invariant-loop-entry
invariant-loop-entry l = record {
  news : (at : ℕ) → l.news.items ++ are_new (look l.names) (each_at entry_size entry_named at (map entry_tree (drop l.entry-index l.entries))) ≡ are_new (look l.initial.names) (each_at entry_size entry_named at (map entry_tree l.entries));
  names : (at : ℕ) (q : List ℕ) → then_declared (look l.names) (each_at entry_size entry_named at (map entry_tree (drop l.entry-index l.entries))) q ≡ then_declared (look l.initial.names) (each_at entry_size entry_named at (map entry_tree l.entries)) q;
}
