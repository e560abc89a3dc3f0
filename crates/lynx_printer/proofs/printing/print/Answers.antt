use Rattle.std.proofs.Common.{ℕ, List, ◌++◌, sym, ap, ◌∙◌}
use Rattle.lynx_tree.specs.Trees.{module_tree}
use Rattle.lynx_tree.specs.Grammar.{module_marks, kinds_of}
use Rattle.lynx_tree.specs.Printing.{text_of}
use Rattle.lynx_printer.proofs.Spelled.{printed-kinds, spelled}
use Rattle.lynx_printer.proofs.printing.print.Goals as goal

pub returns-clause-text : goal.returns-clause-text
returns-clause-text c =
    c.in_ok-push_module.ensures ∙ ap (λ (y : List ℕ). y ++ text_of (module_marks (module_tree c.args.tree.now))) c.new-out.ensures.items ∙ sym (printed-kinds (module_marks (module_tree c.args.tree.now)))

pub returns-clause-spelled : goal.returns-clause-spelled
returns-clause-spelled c =
    spelled (kinds_of (module_tree c.args.tree.now)) _ c.requires.tokens
    (c.in_ok-push_module.ensures ∙ ap (λ (y : List ℕ). y ++ text_of (module_marks (module_tree c.args.tree.now))) c.new-out.ensures.items ∙ sym (printed-kinds (module_marks (module_tree c.args.tree.now))))
