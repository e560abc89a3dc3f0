-- A kernel as its parts, before and after an event.
use Rattle.std.proofs.Common.{◌<◌, ◌≡◌, ℕ, nat_eq, List, length, length-set, slice_set, map, max, get_or, cond, refl, ap, sym, subst, ◌∙◌}
use Rattle.std.proofs.lemmas.List.{length-map}
use Rattle.std.proofs.Math.Seq.{map-set_same}
use Rattle.charlotte_calls.specs.declared.names.Pid.{Pid}
use Rattle.charlotte_packets.specs.declared.picture.Picture.{Picture}
use Rattle.charlotte_packets.specs.declared.work.Effect.{Effect}
use Rattle.end_table.specs.Table.{TableView, entries}
use Rattle.kernel_core.specs.Consistent.{AreConsistentOf}
use Rattle.kernel_core.specs.Started.{takes_addressed}
use Rattle.kernel_core.specs.State.{KernelView, state_of}
use Rattle.kernel_process.proofs.ActiveSets.{tells_same}
use Rattle.kernel_process.proofs.OneProcess.{process_at-at, process_at-set}
use Rattle.kernel_process.specs.Active.{started_ends}
use Rattle.kernel_process.specs.Parts.{process_state, process_at, ended, with_parts}
use Rattle.kernel_process.specs.declared.process.ControlBlock.{ControlBlock}
use Rattle.kernel_sound.specs.Sound.{IsSound}
use Rattle.kernel_step.specs.Kernel.{Process, begins, closes, next_stamp, process_of, take_step, with_process}

-- a kernel in the state that its parts have
pub state-parts : (v : KernelView) (xs : List ControlBlock) → map process_state xs ≡ v.processes → with_parts (entries v.table) xs (state_of v) ≡ state_of v
unfolding with_parts state_of
state-parts v xs is = ap (λ (ps : List Process). record (state_of v) { process = process_at ps }) is

-- a kernel whose parts changed
pub state-changed : (v w : KernelView) (ys : List ControlBlock) → w.kernels ≡ v.kernels → w.version ≡ v.version → w.table.kernel ≡ v.table.kernel → map process_state ys ≡ w.processes
    → state_of w ≡ with_parts (entries w.table) ys (record (state_of v) { made = w.made; stamp = w.stamp })
unfolding with_parts state_of
state-changed v w ys kernels version number is = λ i. record {
  number = number i;
  kernels = kernels i;
  version = version i;
  table = entries w.table;
  process = process_at (sym is i);
  made = w.made;
  stamp = w.stamp;
}

-- a kernel of which no part that counts has changed
pub state-same : (v w : KernelView) → w.kernels ≡ v.kernels → w.version ≡ v.version → w.table.kernel ≡ v.table.kernel → entries w.table ≡ entries v.table → w.processes ≡ v.processes → w.made ≡ v.made → w.stamp ≡ v.stamp → state_of w ≡ state_of v
unfolding state_of
state-same v w kernels version number table processes made stamp = λ i. record {
  number = number i;
  kernels = kernels i;
  version = version i;
  table = table i;
  process = process_at (processes i);
  made = made i;
  stamp = stamp i;
}

-- taking a packet, by the parts of the kernel
pub take-by_parts : (v w : KernelView) (xs ys : List ControlBlock) (from stamp : ℕ) (pic : Picture) (effect : Effect) → map process_state xs ≡ v.processes → map process_state ys ≡ w.processes
    → w.kernels ≡ v.kernels → w.version ≡ v.version → w.table.kernel ≡ v.table.kernel → w.made ≡ v.made → w.stamp ≡ effect.stamp → stamp ≡ next_stamp (max v.stamp pic.stamp)
    → ended (with_parts (entries w.table) ys (record (state_of v) { stamp = effect.stamp })) effect ≡ closes (with_parts (entries v.table) xs (state_of v)) (takes_addressed v.kernels v.table.kernel v.made from pic.what (begins (state_of v) stamp))
    → ended (state_of w) effect ≡ take_step (state_of v) from pic
unfolding state_of take_step
take-by_parts v w xs ys from stamp pic effect xs_are ys_are kernels version number made stamp_is next part =
    ap (λ s. ended s effect) (state-changed v w ys kernels version number ys_are ∙ ap (λ n. with_parts (entries w.table) ys (record (state_of v) { made = n; stamp = w.stamp })) made
    ∙ ap (λ n. with_parts (entries w.table) ys (record (state_of v) { stamp = n })) stamp_is)
    ∙ part
    ∙ ap (λ s. closes s (takes_addressed v.kernels v.table.kernel v.made from pic.what (begins (state_of v) stamp))) (state-parts v xs xs_are)
    ∙ ap (λ n. closes (state_of v) (takes_addressed v.kernels v.table.kernel v.made from pic.what (begins (state_of v) n))) next

-- what a kernel has of a process that is one of its processes
pub state_of-at : (v : KernelView) (xs : List ControlBlock) (d : ControlBlock) (i : ℕ) (p : Pid) → map process_state xs ≡ v.processes → i ≡ p.0 → p.0 < length v.processes → process_of p (state_of v) ≡ process_state (get_or xs i d)
unfolding state_of
state_of-at v xs d i p is at below = ap (λ ps. process_at ps p.0) (sym is) ∙ ap (λ n. process_at (map process_state xs) n) (sym at) ∙ process_at-at xs i d within
  where
    within : i < length xs
    within = subst (λ n. n < length xs) (sym at) (subst (λ n. p.0 < n) (ap length (sym is) ∙ length-map xs process_state) below)

-- a kernel in which one process changes
pub state_of-set : (v w : KernelView) (xs : List ControlBlock) (i : ℕ) (y : ControlBlock) (p : Pid) → map process_state xs ≡ v.processes → w ≡ record v { processes = map process_state (slice_set xs i y) } → i ≡ p.0
    → p.0 < length v.processes → state_of w ≡ with_process p (process_state y) (state_of v)
unfolding state_of
state_of-set v w xs i y p is now at below = ap state_of now ∙ λ j. record (state_of v) {
  process = λ q. (process_at-set xs i y q within ∙ ap (λ n. cond (nat_eq n q) (process_state y) (process_at (map process_state xs) q)) at
      ∙ ap (λ ps. cond (nat_eq p.0 q) (process_state y) (process_at ps q)) is) j;
}
  where
    within : i < length xs
    within = subst (λ n. n < length xs) (sym at) (subst (λ n. p.0 < n) (ap length (sym is) ∙ length-map xs process_state) below)

-- what a kernel keeps, where a process changes and its set of ends does not
pub consistent-set : (kernels made i : ℕ) (t : TableView) (xs : List ControlBlock) (y d : ControlBlock) → started_ends y ≡ started_ends (get_or xs i d) → AreConsistentOf kernels t xs made → AreConsistentOf kernels t (slice_set xs i y) made
consistent-set kernels made i t xs y d same is =
    record {
      consistent = record {
        sound = subst (λ n. IsSound t.kernel made n (entries t)) (sym (length-set xs i y)) is.consistent.sound;
        active = tells_same (entries t) (entries t) xs (slice_set xs i y) is.consistent.active (map-set_same started_ends xs i y d same) (λ p e. refl);
      };
      number = is.number;
      names = is.names;
    }
