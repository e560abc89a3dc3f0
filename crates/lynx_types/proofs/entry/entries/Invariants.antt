use Rattle.std.proofs.Common.{◌≡◌, ◌+◌, ◌++◌, length, map, drop}
use Rattle.std.specs.List.{flat_map}
use Rattle.lynx_tree.specs.Grammar.{entry_marks}
use Rattle.lynx_tree.specs.Trees.{entry_tree}
use Rattle.typing_rules.specs.Meanings.{look}
use Rattle.typing_rules.specs.Modules.{entry_faults}
use Rattle.typing_rules.specs.Names.{each_at, entry_size, entry_named}
use Rattle.typing_rules.specs.Progress.{first_with}
use Rattle.lynx_types.specs.News.{told_faults}
use Rattle.lynx_types.proofs.entry.entries.Given as goal

-- what was seen and what is left are the whole
abbrev pub invariant-loop-new : goal.invariant-loop-new
invariant-loop-new l = record {
  at : l.walk.at + length (flat_map entry_marks (map entry_tree (drop (length l.yielded) l.entries))) ≡ l.initial.walk.at + length (flat_map entry_marks (map entry_tree l.entries));
  first : first_with l.walk.first (told_faults 1 (drop (length l.yielded) l.news) (each_at entry_size entry_named l.walk.at (map entry_tree (drop (length l.yielded) l.entries))) ++ each_at entry_size (entry_faults (look l.outside)) l.walk.at (map entry_tree (drop (length l.yielded) l.entries)))
      ≡ first_with l.initial.walk.first (told_faults 1 l.news (each_at entry_size entry_named l.initial.walk.at (map entry_tree l.entries)) ++ each_at entry_size (entry_faults (look l.outside)) l.initial.walk.at (map entry_tree l.entries));
}
