-- One process more has room.
use Rattle.std.proofs.Common.{◌≤◌, ◌∙◌, arith}
use Rattle.kernel_process.specs.Parts.{process_state}
use Rattle.kernel_process.specs.declared.process.ControlBlock.{ControlBlock}
use Rattle.kernel_process.proofs.Rooms.{same_map, set_more}
use Rattle.kernel_process.proofs.process.reserve_reports.Goals as goal

pub loop-block-preserved : goal.loop-block-preserved
loop-block-preserved c =
    record {
      kept = same_map process_state c.loop-block.blocks c.loop-block.block-index c.block-item.result c.reserve_reports_of.new.block c.reserve_reports_of.ensures.kept
          ∙ c.loop-block.invariant.kept;
      active = same_map (λ (x : ControlBlock). x.active) c.loop-block.blocks c.loop-block.block-index c.block-item.result c.reserve_reports_of.new.block c.reserve_reports_of.ensures.active
          ∙ c.loop-block.invariant.active;
      room = set_more (λ (x : ControlBlock). c.args.most ≤ x.reports.fits) c.loop-block.blocks c.loop-block.block-index c.reserve_reports_of.new.block
          c.loop-block.invariant.room (omega arith) c.in_ok-reserve_reports_of.ensures.room;
    }

pub returns-in_err-reserve_reports_of-clause-kept : goal.returns-in_err-reserve_reports_of-clause-kept
returns-in_err-reserve_reports_of-clause-kept c =
    same_map process_state c.loop-block.blocks c.loop-block.block-index c.block-item.result c.reserve_reports_of.new.block c.reserve_reports_of.ensures.kept
    ∙ c.loop-block.invariant.kept

pub returns-in_err-reserve_reports_of-clause-active : goal.returns-in_err-reserve_reports_of-clause-active
returns-in_err-reserve_reports_of-clause-active c =
    same_map (λ (x : ControlBlock). x.active) c.loop-block.blocks c.loop-block.block-index c.block-item.result c.reserve_reports_of.new.block c.reserve_reports_of.ensures.active
    ∙ c.loop-block.invariant.active
