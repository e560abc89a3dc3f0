use Rattle.std.proofs.Common.{List, ◌+◌, ◌++◌, drop, map, sym, subst, ◌∙◌, arith}
use Rattle.lynx_tree.specs.Trees.{op_tree}
use Rattle.lynx_code.specs.Modules.{ArePairs, IsOpOf}
use Rattle.lynx_code.specs.declared.code.CodeOp.{CodeOp}
use Rattle.compiler_emission.proofs.Entries.{next_op, last_op}
use Rattle.compiler_emission.proofs.Pairing.{IsLeft}
use Rattle.lynx_threads.proofs.compiling.code_ops.Goals as goal

pub loop-op-init : goal.loop-op-init
loop-op-init c rest pairs = subst (λ (made : List CodeOp). ArePairs IsOpOf (map op_tree c.args.ops.now) (made ++ rest)) (sym (c.in_ok-reserve.ensures.items ∙ c.new-made.ensures.items)) pairs

pub loop-op-preserved : goal.loop-op-preserved
loop-op-preserved c =
    let ops = c.args.ops.now in
    let left = drop (c.loop-op.op-index + 1) ops in
    subst (λ (made : List CodeOp). IsLeft IsOpOf (map op_tree ops) (map op_tree left) made) (sym c.in_ok-push.ensures.items)
    (next_op ops c.loop-op.op-index c.op-item.result c.loop-op.made.items c.in_ok-new.new (omega arith) c.op-item.is c.in_ok-new.ensures c.loop-op.invariant)

pub returns : goal.returns
returns c = last_op c.args.ops.now c.loop-op.op-index c.loop-op.made.items (omega arith) c.loop-op.invariant
