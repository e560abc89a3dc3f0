-- What is as before once the room of an event was reserved.
use Rattle.std.proofs.Common.{◌≡◌, ℕ, List, length, map, sym, ap, subst, ◌∙◌}
use Rattle.end_table.specs.Table.{TableView, entries}
use Rattle.kernel_process.proofs.ActiveSets.{tells_same}
use Rattle.kernel_process.proofs.OneProcess.{with_parts-kept}
use Rattle.kernel_core.specs.Consistent.{AreConsistent, IsConsistent, Keeps, OnlyReserves}
use Rattle.kernel_core.specs.declared.state.State.{State}
use Rattle.kernel_process.specs.Active.{started_ends}
use Rattle.kernel_sound.specs.Sound.{IsSound}
use Rattle.kernel_process.specs.Parts.{process_state, with_parts}
use Rattle.kernel_process.specs.declared.process.ControlBlock.{ControlBlock}
use Rattle.end_table.specs.Owned.{owned}
use Rattle.kernel_step.specs.Calls.{is_active}
use Rattle.kernel_step.specs.Kernel.{Kernel}

module _ (old new : TableView) (xs ys : List ControlBlock) (made : ℕ) (kept : AreConsistent old xs made) (same : entries new ≡ entries old) (kernel : new.kernel ≡ old.kernel)
    (started : map started_ends ys ≡ map started_ends xs) (lengths : length ys ≡ length xs) where
  pub reserved-kept : AreConsistent new ys made
  reserved-kept =
      record {
        sound =
            subst (λ k. IsSound k made (length ys) (entries new)) (sym kernel)
            (subst (λ n. IsSound old.kernel made n (entries new)) (sym lengths) (subst (IsSound old.kernel made (length xs)) (sym same) kept.sound));
        active = tells_same (entries old) (entries new) xs ys kept.active started (λ p e. ap (λ t. is_active (owned p (t e))) same);
      }

-- so room that was reserved keeps what every event keeps
pub reserved-keeps : (old new : State) → IsConsistent old → OnlyReserves old new → Keeps old new
reserved-keeps old new is same =
    record {
      consistent = subst (λ n. AreConsistent new.table new.processes n) (sym same.made)
          (reserved-kept old.table new.table old.processes new.processes old.made is same.entries same.kernel same.active same.length);
      kernel = same.kernel;
      length = same.length;
    }

-- the state of the kernel
pub reserved-parts : (old new : TableView) (xs ys : List ControlBlock) (s : Kernel) → entries new ≡ entries old → map process_state ys ≡ map process_state xs → with_parts (entries new) ys s ≡ with_parts (entries old) xs s
reserved-parts old new xs ys s same kept = ap (λ t. with_parts t ys s) same ∙ with_parts-kept (entries old) xs ys s kept
