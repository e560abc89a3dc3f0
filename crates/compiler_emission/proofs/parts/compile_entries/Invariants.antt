use Rattle.std.proofs.Common.{◌≡◌, ◌≤◌, ◌++◌, List, length, drop, map}
use Rattle.lynx_tree.specs.Trees.{module_tree, entry_tree}
use Rattle.lynx_code.specs.Modules.{PartCode, entry_parts, ArePairs, IsPartOf}
use Rattle.compiler_emission.proofs.Emitting.{each}
use Rattle.compiler_emission.proofs.Entries.{entry_here}
use Rattle.compiler_emission.proofs.Pairing.{IsLeft}
use Rattle.compiler_emission.proofs.parts.compile_entries.Given as goal

-- what is added and what is left to add are the whole
abbrev pub invariant-loop-entry : goal.invariant-loop-entry
invariant-loop-entry l = record {
  ok : l.code.items ++ each (entry_here (module_tree l.tree)) (length l.code.items) (drop l.entry-index l.entries) ≡ l.initial.code.items ++ each (entry_here (module_tree l.tree)) (length l.initial.code.items) l.entries;
  parts : (before : List PartCode) → ArePairs IsPartOf before l.initial.parts.items
      → IsLeft IsPartOf (before ++ entry_parts (module_tree l.tree) (length l.initial.code.items) (map entry_tree l.entries)) (entry_parts (module_tree l.tree) (length l.code.items) (map entry_tree (drop l.entry-index l.entries))) l.parts.items;
  fits : length l.code.items ≤ 65535;
}
