use Rattle.std.proofs.Common.{◌≡◌, ◌++◌, drop}
use Rattle.std.specs.List.{flat_map}
use Rattle.lynx_tree.specs.Printing.{text_of}
use Rattle.lynx_printer.proofs.print_all.push_all.Given as goal

-- what is printed and what is left to print are the whole
abbrev pub invariant-loop-item : goal.invariant-loop-item
invariant-loop-item g l =
    l.out.items ++ text_of (flat_map (g.T.Declaration.marks l.keyword) (drop l.item-index l.all)) ≡ l.initial.out.items ++ text_of (flat_map (g.T.Declaration.marks l.keyword) l.all)
