use Rattle.std.proofs.Common.{◌≡◌, All, sym, subst, arith}
use Rattle.std.proofs.lemmas.Grind.{common_steps}
use Rattle.std.proofs.lemmas.List.Elements.{All-push}
use Rattle.service_step.specs.Run.{new_process}
use Rattle.service_processes.specs.Processes.{process_state}
use Rattle.service_processes.specs.declared.processes.ControlBlock.{ControlBlock}
use Rattle.service_processes.proofs.processes.fresh_blocks.Goals as goal

pub loop-number-preserved : goal.loop-number-preserved
loop-number-preserved c =
    record {
      count = grind (arith, common_steps);
      fresh = subst (All (λ (x : ControlBlock). process_state x ≡ new_process)) (sym c.in_ok-push.ensures.items) (All-push (λ (x : ControlBlock). process_state x ≡ new_process) c.loop-number.blocks.items c.fresh_block.result c.loop-number.invariant.fresh c.fresh_block.ensures);
    }
