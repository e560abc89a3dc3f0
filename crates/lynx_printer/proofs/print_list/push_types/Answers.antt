use Rattle.std.proofs.lemmas.Result.{on_ok_weaker}
use Rattle.lynx_printer.proofs.Lists.{bracketed_printed}
use Rattle.lynx_printer.proofs.print_list.push_types.Goals as goal

pub returns : goal.returns
returns c =
    on_ok_weaker c.push_sign-2.result
    (λ last.
    bracketed_printed 0 _ c.args.out.now.items c.push_sign.new.out.items c.push_type_list.new.out.items _ c.in_ok-push_sign.ensures c.in_ok-push_type_list.ensures last)
    c.push_sign-2.ensures
