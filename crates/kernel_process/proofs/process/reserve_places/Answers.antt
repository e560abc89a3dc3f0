-- One process more has room.
use Rattle.std.proofs.Common.{◌≤◌, ◌∙◌, arith}
use Rattle.indexmap.specs.IndexSet.{spare}
use Rattle.kernel_process.specs.Active.{started_ends}
use Rattle.kernel_process.specs.Parts.{process_state}
use Rattle.kernel_process.specs.declared.process.ControlBlock.{ControlBlock}
use Rattle.kernel_process.proofs.Rooms.{same_map, set_more}
use Rattle.kernel_process.proofs.process.reserve_places.Goals as goal

pub loop-block-preserved : goal.loop-block-preserved
loop-block-preserved c =
    record {
      kept = same_map process_state c.loop-block.blocks c.loop-block.block-index c.block-item.result c.reserve_place_of.new.block c.reserve_place_of.ensures.kept
          ∙ c.loop-block.invariant.kept;
      active = same_map started_ends c.loop-block.blocks c.loop-block.block-index c.block-item.result c.reserve_place_of.new.block c.reserve_place_of.ensures.active
          ∙ c.loop-block.invariant.active;
      reports = same_map (λ (x : ControlBlock). x.reports) c.loop-block.blocks c.loop-block.block-index c.block-item.result c.reserve_place_of.new.block c.reserve_place_of.ensures.reports
          ∙ c.loop-block.invariant.reports;
      room = set_more (λ (x : ControlBlock). 1 ≤ spare x.active) c.loop-block.blocks c.loop-block.block-index c.reserve_place_of.new.block
          c.loop-block.invariant.room (omega arith) c.in_ok-reserve_place_of.ensures.room;
    }

pub returns-in_err-reserve_place_of-clause-kept : goal.returns-in_err-reserve_place_of-clause-kept
returns-in_err-reserve_place_of-clause-kept c =
    same_map process_state c.loop-block.blocks c.loop-block.block-index c.block-item.result c.reserve_place_of.new.block c.reserve_place_of.ensures.kept
    ∙ c.loop-block.invariant.kept

pub returns-in_err-reserve_place_of-clause-active : goal.returns-in_err-reserve_place_of-clause-active
returns-in_err-reserve_place_of-clause-active c =
    same_map started_ends c.loop-block.blocks c.loop-block.block-index c.block-item.result c.reserve_place_of.new.block c.reserve_place_of.ensures.active
    ∙ c.loop-block.invariant.active

pub returns-in_err-reserve_place_of-clause-reports : goal.returns-in_err-reserve_place_of-clause-reports
returns-in_err-reserve_place_of-clause-reports c =
    same_map (λ (x : ControlBlock). x.reports) c.loop-block.blocks c.loop-block.block-index c.block-item.result c.reserve_place_of.new.block c.reserve_place_of.ensures.reports
    ∙ c.loop-block.invariant.reports
