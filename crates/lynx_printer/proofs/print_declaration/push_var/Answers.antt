use Rattle.std.proofs.Common.{◌++◌, [], ◌∷◌}
use Rattle.std.proofs.lemmas.Result.{on_ok_weaker}
use Rattle.lynx_lexer.specs.declared.sign.Sign.TheVariants as signs
use Rattle.lynx_tree.specs.Grammar.{word, mark, name, type_marks}
use Rattle.lynx_printer.proofs.Lists.{one_more}
use Rattle.lynx_printer.proofs.Statements.{two, one_then}
use Rattle.lynx_printer.proofs.print_declaration.push_var.Goals as goal

pub returns : goal.returns
returns c =
    on_ok_weaker c.push_sign-2.result
    (λ last.
    two (word 0 c.args.keyword ∷ name 0 c.args.var.now.name ∷ []) (mark 0 signs.Colon ∷ (type_marks 0 c.args.var.now.kind ++ mark 0 signs.Semicolon ∷ [])) _ c.push_named.new.out.items _ (c.in_ok-push_named.ensures 0)
    (one_then (mark 0 signs.Colon) (type_marks 0 c.args.var.now.kind ++ mark 0 signs.Semicolon ∷ []) _ c.push_sign.new.out.items _ c.in_ok-push_sign.ensures
    (two (type_marks 0 c.args.var.now.kind) (mark 0 signs.Semicolon ∷ []) _ c.push_type.new.out.items _ (c.in_ok-push_type.ensures 0) (one_more (mark 0 signs.Semicolon) _ _ last))))
    c.push_sign-2.ensures
