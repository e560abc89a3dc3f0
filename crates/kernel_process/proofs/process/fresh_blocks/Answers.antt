use Rattle.std.proofs.Common.{All, sym, subst, arith}
use Rattle.std.proofs.lemmas.Grind.{common_steps}
use Rattle.std.proofs.lemmas.List.Elements.{All-push}
use Rattle.kernel_process.specs.Fresh.{IsFresh}
use Rattle.kernel_process.proofs.process.fresh_blocks.Goals as goal

pub loop-number-preserved : goal.loop-number-preserved
loop-number-preserved c =
    record {
      count = grind (arith, common_steps);
      fresh = subst (All IsFresh) (sym c.in_ok-push.ensures.items) (All-push IsFresh c.loop-number.blocks.items c.fresh_block.result c.loop-number.invariant.fresh c.fresh_block.ensures);
    }
