use Rattle.std.proofs.Common.{◌++◌, [], ◌∷◌}
use Rattle.std.proofs.lemmas.Result.{on_ok_weaker}
use Rattle.lynx_lexer.specs.declared.keyword.Keyword.TheVariants as keywords
use Rattle.lynx_tree.specs.Trees.{stmt_list}
use Rattle.lynx_tree.specs.Grammar.{word, mark, stmts_marks}
use Rattle.lynx_printer.proofs.Lists.{one_more}
use Rattle.lynx_printer.proofs.Statements.{two, one_then}
use Rattle.lynx_printer.proofs.print_declaration.push_body.Goals as goal

pub returns : goal.returns
returns c =
    on_ok_weaker c.push_sign.result
    (λ last.
    one_then (word 0 keywords.Begin) (stmts_marks 0 (stmt_list c.args.body.now) ++ word 0 keywords.End ∷ mark 0 c.args.last ∷ []) _ c.push_keyword.new.out.items _ c.in_ok-push_keyword.ensures
    (two (stmts_marks 0 (stmt_list c.args.body.now)) (word 0 keywords.End ∷ mark 0 c.args.last ∷ []) _ c.push_stmts.new.out.items _ (c.in_ok-push_stmts.ensures 0)
    (one_then (word 0 keywords.End) (mark 0 c.args.last ∷ []) _ c.push_keyword-2.new.out.items _ c.in_ok-push_keyword-2.ensures (one_more (mark 0 c.args.last) _ _ last))))
    c.push_sign.ensures
