use Rattle.std.proofs.Common.{◌++◌, [], ◌∷◌}
use Rattle.std.proofs.lemmas.Result.{on_ok_weaker}
use Rattle.lynx_lexer.specs.declared.keyword.Keyword.TheVariants as keywords
use Rattle.lynx_lexer.specs.declared.sign.Sign.TheVariants as signs
use Rattle.lynx_tree.specs.Trees.{expr_list}
use Rattle.lynx_tree.specs.Grammar.{word, mark, name, names_marks, exprs_marks}
use Rattle.lynx_printer.proofs.Statements.{two, one_then}
use Rattle.lynx_printer.proofs.print_statement.push_connect.Goals as goal

pub returns : goal.returns
returns c d =
    on_ok_weaker c.push_names.result
    (λ last.
    two (word d keywords.Connect ∷ name d c.args.op.now ∷ word d keywords.On ∷ name d c.args.link.now ∷ []) (exprs_marks d (expr_list c.args.values.now) ++ mark d signs.Colon ∷ names_marks d c.args.results.now) _ c.push_two.new.out.items _ (c.in_ok-push_two.ensures d)
    (two (exprs_marks d (expr_list c.args.values.now)) (mark d signs.Colon ∷ names_marks d c.args.results.now) _ c.push_exprs.new.out.items _ (c.in_ok-push_exprs.ensures d)
    (one_then (mark d signs.Colon) (names_marks d c.args.results.now) _ c.push_sign.new.out.items _ c.in_ok-push_sign.ensures last)))
    (c.push_names.ensures d)
