use Rattle.std.proofs.Common.{◌++◌, [], ◌∷◌, List, map}
use Rattle.std.proofs.lemmas.Result.{on_ok_weaker}
use Rattle.std.specs.List.{flat_map}
use Rattle.lynx_lexer.specs.declared.keyword.Keyword.TheVariants as keywords
use Rattle.lynx_lexer.specs.declared.sign.Sign.TheVariants as signs
use Rattle.lynx_tree.specs.Trees.{op_tree, var_tree, entry_tree, stmt_list}
use Rattle.lynx_tree.specs.Grammar.{Mark, word, mark, name, vars_marks, var_marks, op_marks, entry_marks, stmts_marks}
use Rattle.lynx_printer.proofs.Lists.{along, along_trees}
use Rattle.lynx_printer.proofs.Statements.{two, one_then}
use Rattle.lynx_printer.proofs.printing.push_module.Goals as goal

pub returns : goal.returns
returns c =
    let body : List Mark = word 0 keywords.Begin ∷ (stmts_marks 0 (stmt_list c.args.tree.now.body.items) ++ word 0 keywords.End ∷ mark 0 signs.Dot ∷ []) in
    let entries : List Mark = flat_map entry_marks (map entry_tree c.args.tree.now.entries.items) in
    let vars : List Mark = vars_marks (map var_tree c.args.tree.now.vars.items) in
    let params : List Mark = flat_map (var_marks keywords.Param) (map var_tree c.args.tree.now.params.items) in
    let ops : List Mark = flat_map op_marks (map op_tree c.args.tree.now.ops.items) in
    on_ok_weaker c.push_body.result
    (λ last.
    two (word 0 keywords.Module ∷ name 0 c.args.tree.now.name ∷ []) (mark 0 signs.Semicolon ∷ (ops ++ (params ++ (vars ++ (entries ++ body))))) _ c.push_named.new.out.items _ (c.in_ok-push_named.ensures 0)
    (one_then (mark 0 signs.Semicolon) (ops ++ (params ++ (vars ++ (entries ++ body)))) _ c.push_sign.new.out.items _ c.in_ok-push_sign.ensures
    (two ops (params ++ (vars ++ (entries ++ body))) _ c.push_all.new.out.items _ (along_trees op_marks op_tree _ _ _ _ c.deref.ensures.value c.in_ok-push_all.ensures)
    (two params (vars ++ (entries ++ body)) _ c.push_all-2.new.out.items _ (along_trees (var_marks keywords.Param) var_tree _ _ _ _ c.deref-2.ensures.value c.in_ok-push_all-2.ensures)
    (two vars (entries ++ body) _ c.push_all-3.new.out.items _ (along_trees (var_marks keywords.Var) var_tree _ _ _ _ c.deref-3.ensures.value c.in_ok-push_all-3.ensures)
    (two entries body _ c.push_all-4.new.out.items _ (along_trees entry_marks entry_tree _ _ _ _ c.deref-4.ensures.value c.in_ok-push_all-4.ensures)
    (along (λ ss. word 0 keywords.Begin ∷ (stmts_marks 0 (stmt_list ss) ++ word 0 keywords.End ∷ mark 0 signs.Dot ∷ [])) _ _ _ _ c.deref-5.ensures.value last)))))))
    c.push_body.ensures
