use Rattle.std.proofs.Common.{suc}
use Rattle.std.proofs.lemmas.Result.{on_ok_weaker}
use Rattle.lynx_lexer.specs.declared.sign.Sign.TheVariants as signs
use Rattle.lynx_tree.specs.Grammar.{mark}
use Rattle.lynx_printer.proofs.Lists.{bracketed_printed, text_of_comma}
use Rattle.lynx_printer.proofs.print_list.push_exprs.Goals as goal

pub returns : goal.returns
returns c d =
    on_ok_weaker c.push_sign-2.result
    (λ last.
    bracketed_printed d _ c.args.out.now.items c.push_sign.new.out.items c.push_chain.new.out.items _ c.in_ok-push_sign.ensures
    (c.in_ok-push_chain.ensures (suc d) (mark (suc d) signs.Comma) (text_of_comma (suc d))) last)
    c.push_sign-2.ensures
