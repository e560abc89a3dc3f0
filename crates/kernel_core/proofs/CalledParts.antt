-- A call by the parts of a kernel, before and after its room was reserved.
use Rattle.std.proofs.Common.{◌≡◌, ℕ, List, map, sym, ap, subst, ◌∙◌, refl}
use Rattle.charlotte_calls.specs.declared.calls.Call.{Call}
use Rattle.charlotte_calls.specs.declared.names.EndId.{EndId}
use Rattle.charlotte_calls.specs.declared.names.Pid.{Pid}
use Rattle.charlotte_packets.specs.declared.work.Effect.{Effect}
use Rattle.end_table.specs.Table.{entries}
use Rattle.kernel_core.proofs.Reserved.{reserved-parts}
use Rattle.kernel_core.proofs.Kernels.{state-parts, state-changed}
use Rattle.kernel_core.specs.State.{KernelView, state_of}
use Rattle.kernel_process.specs.Parts.{process_state, ended, with_parts}
use Rattle.kernel_core.specs.Stepping.{IsStepOf, IsCalled}
use Rattle.kernel_process.specs.declared.process.ControlBlock.{ControlBlock}
use Rattle.kernel_core.specs.Consistent.{OnlyReserves}
use Rattle.kernel_core.specs.declared.state.State.{State}
use Rattle.kernel_step.specs.Calls.{IsCallWith}
use Rattle.kernel_step.specs.Kernel.{call_step, next_stamp}

-- the event of a call whose room was reserved first
pub called-before : (old now new : State) (stamp : ℕ) (effect : Effect) (p : Pid) (c : Call) → OnlyReserves old now → IsCalled now stamp new effect p c → IsCalled old stamp new effect p c
called-before old now new stamp effect p c same called = (
  called.0,
  subst (λ u. IsCallWith p u called.0 c) same.entries called.1,
  λ s has next.
      called.2 s (record { parts = reserved-parts old.table now.table old.processes now.processes s same.entries same.states ∙ has.parts; number = has.number ∙ sym same.kernel; links = has.links ∙ sym same.made }) next,
)

-- the event of a call is that of the kernel
pub call-by_parts : (v w : KernelView) (xs ys : List ControlBlock) (stamp : ℕ) (effect : Effect) (p : Pid) (mine : List EndId) (c : Call) → map process_state xs ≡ v.processes → map process_state ys ≡ w.processes
    → w.kernels ≡ v.kernels → w.version ≡ v.version → w.table.kernel ≡ v.table.kernel → w.stamp ≡ effect.stamp → stamp ≡ next_stamp v.stamp
    → IsStepOf v.table xs v.made stamp w.table ys w.made effect p mine c → ended (state_of w) effect ≡ call_step (state_of v) p mine c
unfolding state_of
call-by_parts v w xs ys stamp effect p mine c xs_are ys_are kernels version number stamp_is next step =
    ap (λ s. ended s effect) (state-changed v w ys kernels version number ys_are ∙ ap (λ n. with_parts (entries w.table) ys (record (state_of v) { made = w.made; stamp = n })) stamp_is)
    ∙ step (state_of v) (record { parts = state-parts v xs xs_are; number = refl; links = refl }) next
