use Rattle.std.proofs.Common.{◌≡◌, ◌++◌, drop}
use Rattle.std.specs.List.{flat_map}
use Rattle.lynx_tree.specs.Grammar.{type_marks}
use Rattle.lynx_tree.specs.Printing.{text_of}
use Rattle.lynx_printer.proofs.Lists.{behind_comma}
use Rattle.lynx_printer.proofs.print_list.push_type_list.Given as goal

-- what is printed and what is left to print are the whole
abbrev pub invariant-loop-kind : goal.invariant-loop-kind
invariant-loop-kind l = l.out.items ++ text_of (flat_map (behind_comma 1 (type_marks 1)) (drop l.kind-index l.rest)) ≡ l.initial.out.items ++ text_of (flat_map (behind_comma 1 (type_marks 1)) l.rest)
