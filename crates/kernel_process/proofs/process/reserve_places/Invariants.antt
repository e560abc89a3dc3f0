-- The processes before the index have room, and all are as before in what others see of them.
use Rattle.std.proofs.Common.{◌≡◌, ℕ, ◌<◌, ◌≤◌, map, get_or}
use Rattle.indexmap.specs.IndexSet.{spare}
use Rattle.kernel_process.specs.Active.{started_ends}
use Rattle.kernel_process.specs.Parts.{process_state}
use Rattle.kernel_process.specs.declared.process.ControlBlock.{ControlBlock}
use Rattle.kernel_process.proofs.process.reserve_places.Given as goal

abbrev pub invariant-loop-block : goal.invariant-loop-block
invariant-loop-block l =
    record {
      kept : map process_state l.blocks ≡ map process_state l.initial.blocks;
      active : map started_ends l.blocks ≡ map started_ends l.initial.blocks;
      reports : map (λ (x : ControlBlock). x.reports) l.blocks ≡ map (λ (x : ControlBlock). x.reports) l.initial.blocks;
      room : (k : ℕ) (d : ControlBlock) → k < l.block-index → 1 ≤ spare (get_or l.blocks k d).active;
    }
