use Rattle.std.proofs.Common.{◌≡◌, ℕ, ◌+◌, List, ◌++◌, take, map}
use Rattle.lynx_tree.specs.Trees.{entry_tree}
use Rattle.compiler_emission.specs.Places.{IsTableOf}
use Rattle.compiler_emission.proofs.places.add_entries.Given as goal

-- the names that were seen are added, and counted
abbrev pub invariant-loop-entry : goal.invariant-loop-entry
invariant-loop-entry l = record {
  count : l.table.count ≡ l.fn.table.count + l.entry-index;
  table : (names : List (List ℕ)) → IsTableOf names l.fn.table → IsTableOf (names ++ map (λ e. e.name) (map entry_tree (take l.entry-index l.entries))) l.table;
}
