use Rattle.std.proofs.Common.{arith}
use Rattle.std.proofs.lemmas.List.{get_or_default}
use Rattle.lynx_tree.specs.Grammar.{type_marks}
use Rattle.lynx_printer.proofs.Lists.{comma_step, commas_end}
use Rattle.lynx_printer.proofs.print_list.push_type_list.Goals as goal

pub loop-kind-preserved : goal.loop-kind-preserved
loop-kind-preserved c =
    comma_step 1 (type_marks 1) c.in-Some.rest.now c.loop-kind.kind-index _ c.loop-kind.out.items c.push_sign.new.out.items c.push_type-in-loop-kind.new.out.items _ (omega arith) (get_or_default c.in-Some.rest.now c.loop-kind.kind-index _ _ (omega arith))
    c.in_ok-push_sign.ensures (c.in_ok-push_type-2.ensures 1) c.loop-kind.invariant

pub returns : goal.returns
returns c =
    commas_end 1 (type_marks 1) c.args.types.now c.in-Some.rest.now c.in-Some.first.now c.loop-kind.kind-index c.args.out.now.items c.push_type.new.out.items c.loop-kind.out.items c.in-Some.ensures.cases.0 (omega arith)
    (c.in_ok-push_type.ensures 1) c.loop-kind.invariant
