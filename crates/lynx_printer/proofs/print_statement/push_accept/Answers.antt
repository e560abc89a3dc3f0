use Rattle.std.proofs.Common.{◌++◌, [], ◌∷◌}
use Rattle.std.proofs.lemmas.Result.{on_ok_weaker}
use Rattle.lynx_lexer.specs.declared.keyword.Keyword.TheVariants as keywords
use Rattle.lynx_tree.specs.Grammar.{word, name, names_marks}
use Rattle.lynx_printer.proofs.Lists.{one_more}
use Rattle.lynx_printer.proofs.Statements.{two}
use Rattle.lynx_printer.proofs.print_statement.push_accept.Goals as goal

pub returns : goal.returns
returns c d =
    on_ok_weaker c.push_keyword.result
    (λ last.
    two (word d keywords.Accept ∷ name d c.args.op.now ∷ word d keywords.On ∷ name d c.args.link.now ∷ []) (names_marks d c.args.names.now ++ word d keywords.Do ∷ []) _ c.push_two.new.out.items _ (c.in_ok-push_two.ensures d)
    (two (names_marks d c.args.names.now) (word d keywords.Do ∷ []) _ c.push_names.new.out.items _ (c.in_ok-push_names.ensures d) (one_more (word d keywords.Do) _ _ last)))
    c.push_keyword.ensures
