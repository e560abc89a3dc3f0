use Rattle.std.proofs.Common.{◌∙◌, arith}
use Rattle.lynx_tree.specs.Grammar.{op_marks}
use Rattle.lynx_tree.specs.Trees.{op_tree}
use Rattle.typing_rules.specs.Meanings.{look}
use Rattle.typing_rules.specs.Modules.{op_faults}
use Rattle.typing_rules.specs.Names.{op_size, op_named}
use Rattle.lynx_types.proofs.Declarations.{next_tokens, next_first, next_names}
use Rattle.lynx_types.proofs.declaration.ops.Goals as goal

pub loop-item-preserved : goal.loop-item-preserved
loop-item-preserved c =
    let i = c.loop-item.item-index in
    let ds = c.args.ops.now in
    let d = c.item-item.result in
    let a = c.loop-item.walk.at in
    let b = c.op.new.walk.at in
    let s = look c.loop-item.names in
    let t = look c.op.new.names in
    let lt = c.loop-item-test.true in
    let is = c.item-item.is in
    let at_b = c.in_ok-op.ensures.at in
    record {
      at = omega (arith, c.loop-item.invariant.at, at_b, next_tokens op_tree op_marks ds i d lt is);
      first = next_first op_tree op_size op_named ds i d a b lt is at_b s t c.in_ok-op.ensures.names op_faults 1 c.loop-item.walk.first c.op.new.walk.first c.in_ok-op.ensures.first ∙ c.loop-item.invariant.first;
      names = λ q. next_names op_tree op_size op_named ds i d a b lt is at_b s t c.in_ok-op.ensures.names q ∙ c.loop-item.invariant.names q;
    }
