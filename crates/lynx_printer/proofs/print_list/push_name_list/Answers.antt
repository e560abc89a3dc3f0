use Rattle.std.proofs.Common.{[], ◌∷◌, arith}
use Rattle.lynx_tree.specs.Grammar.{name}
use Rattle.lynx_printer.proofs.Lists.{comma_step, commas_end, one_more}
use Rattle.lynx_printer.proofs.print_list.push_name_list.Goals as goal

pub loop-name-preserved : goal.loop-name-preserved
loop-name-preserved c d =
    comma_step d (λ n. name d n ∷ []) c.in-Some.rest.now c.loop-name.name-index c.name-item.result c.loop-name.out.items c.push_sign.new.out.items c.push_name-in-loop-name.new.out.items _ (omega arith) c.name-item.is
    c.in_ok-push_sign.ensures (one_more (name d c.name-item.result) _ _ c.in_ok-push_name-2.ensures) (c.loop-name.invariant d)

pub returns : goal.returns
returns c d =
    commas_end d (λ n. name d n ∷ []) c.args.names.now c.in-Some.rest.now c.in-Some.first.now c.loop-name.name-index c.args.out.now.items c.push_name.new.out.items c.loop-name.out.items c.in-Some.ensures.cases.0 (omega arith)
    (one_more (name d c.in-Some.first.now) _ _ c.in_ok-push_name.ensures) (c.loop-name.invariant d)
