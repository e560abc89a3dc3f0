-- One process of a kernel changes.
use Rattle.charlotte_calls.specs.declared.names.EndId.{EndId}
use Rattle.charlotte_calls.specs.declared.names.Pid.{Pid}
use Rattle.end_table.specs.declared.entry.Entry.{Entry}
use Rattle.kernel_process.specs.Parts.{process_state, no_process, process_at, with_parts}
use Rattle.kernel_process.specs.Parts.{process_state, process_at, with_parts}
use Rattle.kernel_process.specs.declared.process.ControlBlock.{ControlBlock}
use Rattle.kernel_step.specs.Kernel.{Kernel, Process, closes}
use Rattle.kernel_step.specs.Kernel.{Kernel, with_process, process_of}
use Rattle.kernel_step.specs.Progress.{Progress}
use Rattle.std.proofs.Common.{◌<◌, ◌≡◌, ℕ, false, List, map, refl, sym, ap, subst, ◌∙◌}
use Rattle.std.proofs.Common.{◌≡◌, ◌≢◌, ◌⊎◌, inl, inr, ℕ, ◌<◌, true, false, nat_eq, List, length, slice_set, map, ap, sym, subst, ◌∙◌, if◌then◌else◌, get_or, cond}
use Rattle.std.proofs.lemmas.Bool.Decides.{eqb_tells}
use Rattle.std.proofs.lemmas.Grind.{get_or-set_at}
use Rattle.std.proofs.lemmas.List.{get_or-set_other, map-set, get_or-map, length-map}

-- what the processes are where one is set
pub process_at-set : (xs : List ControlBlock) (i : ℕ) (y : ControlBlock) (q : ℕ) → i < length xs → process_at (map process_state (slice_set xs i y)) q ≡ (if nat_eq i q then process_state y else process_at (map process_state xs) q)
unfolding process_at
process_at-set xs i y q below = by (eqb_tells i q)
  where
    set_in : get_or (map process_state (slice_set xs i y)) q no_process ≡ get_or (slice_set (map process_state xs) i (process_state y)) q no_process
    set_in = ap (λ l. get_or l q no_process) (map-set process_state xs i y)

    within : i < length (map process_state xs)
    within = subst (λ n. i < n) (sym (length-map xs process_state)) below

    by : ((nat_eq i q ≡ true) × (i ≡ q)) ⊎ ((nat_eq i q ≡ false) × (i ≢ q)) → get_or (map process_state (slice_set xs i y)) q no_process ≡ cond (nat_eq i q) (process_state y) (get_or (map process_state xs) q no_process)
    by (inl t) = set_in ∙ get_or-set_at (map process_state xs) i q (process_state y) no_process (sym t.1) within
        ∙ sym (ap (λ b. cond b (process_state y) (get_or (map process_state xs) q no_process)) t.0)
    by (inr t) = set_in ∙ get_or-set_other (map process_state xs) i q (process_state y) no_process (λ e. t.1 (sym e))
        ∙ sym (ap (λ b. cond b (process_state y) (get_or (map process_state xs) q no_process)) t.0)

-- a process that is one of the processes
pub process_at-at : (xs : List ControlBlock) (i : ℕ) (d : ControlBlock) → i < length xs → process_at (map process_state xs) i ≡ process_state (get_or xs i d)
unfolding process_at
process_at-at xs i d below = get_or-map process_state xs i d no_process below

-- one process is set: the kernel has that process
pub with_parts-set : (t : EndId → Entry) (xs : List ControlBlock) (i : ℕ) (y : ControlBlock) (s : Kernel) (p : Pid) → i ≡ p.0 → i < length xs → with_parts t (slice_set xs i y) s ≡ with_process p (process_state y) (with_parts t xs s)
unfolding with_parts
with_parts-set t xs i y s p at below = λ j. record s {
  table = t;
  process = λ q. (process_at-set xs i y q below ∙ ap (λ n. cond (nat_eq n q) (process_state y) (process_at (map process_state xs) q)) at) j;
}

-- what a kernel has of a process that is one of its processes
pub process_of-at : (t : EndId → Entry) (xs : List ControlBlock) (d : ControlBlock) (s : Kernel) (i : ℕ) (p : Pid) → i ≡ p.0 → i < length xs → process_of p (with_parts t xs s) ≡ process_state (get_or xs i d)
unfolding with_parts
process_of-at t xs d s i p at below = ap (λ n. process_at (map process_state xs) n) (sym at) ∙ process_at-at xs i d below

-- a state does not depend on the table and the stamp that it had as its event closes
pub closes-table : (t u : EndId → Entry) (xs : List ControlBlock) (s : Kernel) (d : Progress) → closes (with_parts t xs s) d ≡ closes (with_parts u xs s) d
unfolding closes with_parts
closes-table t u xs s d = refl

-- a kernel's state has of its processes what is kept
pub with_parts-kept : (t : EndId → Entry) (xs ys : List ControlBlock) (s : Kernel) → map process_state ys ≡ map process_state xs → with_parts t ys s ≡ with_parts t xs s
unfolding with_parts
with_parts-kept t xs ys s same = ap (λ (ps : List Process). record s { table = t; process = process_at ps }) same
