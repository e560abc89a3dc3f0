use Rattle.std.proofs.Common.{suc}
use Rattle.std.proofs.lemmas.Result.{on_ok_weaker}
use Rattle.lynx_printer.proofs.Lists.{bracketed_printed}
use Rattle.lynx_printer.proofs.print_list.push_names.Goals as goal

pub returns : goal.returns
returns c d =
    on_ok_weaker c.push_sign-2.result
    (λ last.
    bracketed_printed d _ c.args.out.now.items c.push_sign.new.out.items c.push_name_list.new.out.items _ c.in_ok-push_sign.ensures (c.in_ok-push_name_list.ensures (suc d)) last)
    c.push_sign-2.ensures
