use Rattle.std.proofs.Common.{◌++◌, [], ◌∷◌, List}
use Rattle.std.proofs.Common.{map}
use Rattle.std.proofs.lemmas.Result.{on_ok_weaker}
use Rattle.lynx_lexer.specs.declared.keyword.Keyword.TheVariants as keywords
use Rattle.lynx_lexer.specs.declared.sign.Sign.TheVariants as signs
use Rattle.lynx_tree.specs.Trees.{var_tree, stmt_list}
use Rattle.lynx_tree.specs.Grammar.{Mark, word, mark, name, names_marks, vars_marks, var_marks, stmts_marks}
use Rattle.lynx_printer.proofs.Lists.{along, along_trees}
use Rattle.lynx_printer.proofs.Statements.{two}
use Rattle.lynx_printer.proofs.print_declaration.push_entry.Goals as goal

pub returns : goal.returns
returns c =
    let body : List Mark = word 0 keywords.Begin ∷ (stmts_marks 0 (stmt_list c.args.entry.now.body.items) ++ word 0 keywords.End ∷ mark 0 signs.Semicolon ∷ []) in
    let vars : List Mark = vars_marks (map var_tree c.args.entry.now.vars.items) in
    on_ok_weaker c.push_body.result
    (λ last.
    two (word 0 keywords.Entry ∷ name 0 c.args.entry.now.name ∷ word 0 keywords.Of ∷ name 0 c.args.entry.now.op ∷ []) (names_marks 0 c.args.entry.now.parameters.items ++ (vars ++ body)) _ c.push_two.new.out.items _ (c.in_ok-push_two.ensures 0)
    (two (names_marks 0 c.args.entry.now.parameters.items) (vars ++ body) _ c.push_names.new.out.items _ (along (names_marks 0) _ _ _ _ c.deref.ensures.value (c.in_ok-push_names.ensures 0))
    (two vars body _ c.push_all.new.out.items _ (along_trees (var_marks keywords.Var) var_tree _ _ _ _ c.deref-2.ensures.value c.in_ok-push_all.ensures)
    (along (λ ss. word 0 keywords.Begin ∷ (stmts_marks 0 (stmt_list ss) ++ word 0 keywords.End ∷ mark 0 signs.Semicolon ∷ [])) _ _ _ _ c.deref-3.ensures.value last))))
    c.push_body.ensures
