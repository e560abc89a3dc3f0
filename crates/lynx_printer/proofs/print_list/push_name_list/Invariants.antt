use Rattle.std.proofs.Common.{◌≡◌, ℕ, ◌∷◌, [], ◌++◌, drop}
use Rattle.std.specs.List.{flat_map}
use Rattle.lynx_tree.specs.Grammar.{name}
use Rattle.lynx_tree.specs.Printing.{text_of}
use Rattle.lynx_printer.proofs.Lists.{behind_comma}
use Rattle.lynx_printer.proofs.print_list.push_name_list.Given as goal

-- what is printed and what is left to print are the whole
abbrev pub invariant-loop-name : goal.invariant-loop-name
invariant-loop-name l = (d : ℕ) → l.out.items ++ text_of (flat_map (behind_comma d (λ n. name d n ∷ [])) (drop l.name-index l.rest)) ≡ l.initial.out.items ++ text_of (flat_map (behind_comma d (λ n. name d n ∷ [])) l.rest)
