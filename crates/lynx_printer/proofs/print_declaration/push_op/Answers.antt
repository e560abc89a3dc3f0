use Rattle.std.proofs.Common.{◌++◌, [], ◌∷◌}
use Rattle.std.proofs.lemmas.Result.{on_ok_weaker}
use Rattle.lynx_lexer.specs.declared.keyword.Keyword.TheVariants as keywords
use Rattle.lynx_lexer.specs.declared.sign.Sign.TheVariants as signs
use Rattle.lynx_tree.specs.Grammar.{word, mark, name, types_marks}
use Rattle.lynx_printer.proofs.Lists.{one_more, along}
use Rattle.lynx_printer.proofs.Statements.{two, one_then}
use Rattle.lynx_printer.proofs.print_declaration.push_op.Goals as goal

pub returns : goal.returns
returns c =
    on_ok_weaker c.push_sign-2.result
    (λ last.
    two (word 0 keywords.Op ∷ name 0 c.args.op.now.name ∷ []) (types_marks c.args.op.now.arguments.items ++ mark 0 signs.Colon ∷ (types_marks c.args.op.now.results.items ++ mark 0 signs.Semicolon ∷ [])) _ c.push_named.new.out.items _ (c.in_ok-push_named.ensures 0)
    (two (types_marks c.args.op.now.arguments.items) (mark 0 signs.Colon ∷ (types_marks c.args.op.now.results.items ++ mark 0 signs.Semicolon ∷ [])) _ c.push_types.new.out.items _ (along types_marks _ _ _ _ c.deref.ensures.value c.in_ok-push_types.ensures)
    (one_then (mark 0 signs.Colon) (types_marks c.args.op.now.results.items ++ mark 0 signs.Semicolon ∷ []) _ c.push_sign.new.out.items _ c.in_ok-push_sign.ensures
    (two (types_marks c.args.op.now.results.items) (mark 0 signs.Semicolon ∷ []) _ c.push_types-2.new.out.items _ (along types_marks _ _ _ _ c.deref-2.ensures.value c.in_ok-push_types-2.ensures) (one_more (mark 0 signs.Semicolon) _ _ last)))))
    c.push_sign-2.ensures
