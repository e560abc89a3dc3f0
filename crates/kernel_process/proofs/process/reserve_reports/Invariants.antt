-- The processes before the index have room, and all are as before in what others see of them.
use Rattle.std.proofs.Common.{◌≡◌, ℕ, ◌<◌, ◌≤◌, map, get_or}
use Rattle.kernel_process.specs.Parts.{process_state}
use Rattle.kernel_process.specs.declared.process.ControlBlock.{ControlBlock}
use Rattle.kernel_process.proofs.process.reserve_reports.Given as goal

abbrev pub invariant-loop-block : goal.invariant-loop-block
invariant-loop-block l =
    record {
      kept : map process_state l.blocks ≡ map process_state l.initial.blocks;
      active : map (λ (x : ControlBlock). x.active) l.blocks ≡ map (λ (x : ControlBlock). x.active) l.initial.blocks;
      room : (k : ℕ) (d : ControlBlock) → k < l.block-index → l.most ≤ (get_or l.blocks k d).reports.fits;
    }
