-- One event at a node.
use Rattle.std.proofs.Common.{◌≡◌, ℕ, ◌++◌, length, map, ap, sym, refl, ◌∙◌, Result, Ok, Err, OnOk, IfOk}
use Rattle.charlotte_packets.specs.declared.work.Effect.{Effect}
use Rattle.kernel_core.specs.State.{KernelView, state_of, ended}
use Rattle.kernel_step.specs.Kernel.{Outcome}
use Rattle.kernel_step.specs.Progress.{sent_picture}
use Rattle.kernel_world.specs.World.{to_kernel}
use Rattle.kernel_nodes.specs.Nodes.{sent_to, IsAfter, IsNotedOf}
use Rattle.kernel_nodes.specs.declared.node.Node.{Node}
use Rattle.kernel_nodes.specs.declared.nodes.Noted.{Noted}

-- an effect has what an outcome says
pub record IsEffectOf (k : KernelView) (effect : Effect) (o : Outcome) : Type 0 where
  pub kernel : state_of k ≡ o.kernel
  pub stamp : effect.stamp ≡ o.kernel.stamp
  pub packets : map sent_picture effect.packets.items ≡ o.packets
  pub steps : effect.steps.items ≡ o.steps

state_of-stamp : (k : KernelView) → (state_of k).stamp ≡ k.stamp
unfolding state_of
state_of-stamp k = refl

pub effect_of : (k : KernelView) (effect : Effect) (o : Outcome) → ended (state_of k) effect ≡ o → effect.stamp ≡ k.stamp → IsEffectOf k effect o
unfolding ended
effect_of k effect o e at =
    record {
      kernel = ap (λ (x : Outcome). x.kernel) e;
      stamp = at ∙ sym (state_of-stamp k) ∙ ap (λ (x : Outcome). x.kernel.stamp) e;
      packets = ap (λ (x : Outcome). x.packets) e;
      steps = ap (λ (x : Outcome). x.steps) e;
    }

-- a node sent the packets of an event, and this is noted of it
pub record IsSentBy (effect : Effect) (noted : Noted) (old new : Node) : Type 0 where
  pub stamp : noted.stamp ≡ effect.stamp
  pub steps : noted.steps ≡ effect.steps
  pub kernel : new.kernel ≡ old.kernel
  pub sent : (to : ℕ) → sent_to new to ≡ sent_to old to ++ to_kernel to (map sent_picture effect.packets.items)
  pub lists : length new.sent.items ≡ length old.sent.items

-- the packets of an event were sent
pub sent-after : (old new : Node) (k : KernelView) (effect : Effect) (o : Outcome) → IsEffectOf k effect o → new.kernel ≡ k → length k.processes ≡ length old.kernel.processes
    → k.kernels ≡ old.kernel.kernels → length new.sent.items ≡ length old.sent.items → ((to : ℕ) → sent_to new to ≡ sent_to old to ++ to_kernel to (map sent_picture effect.packets.items)) → IsAfter o old new
sent-after old new k effect o is kernel processes kernels lists sent =
    record {
      kernel = ap state_of kernel ∙ is.kernel;
      sent = λ to. sent to ∙ ap (λ qs. sent_to old to ++ to_kernel to qs) is.packets;
      processes = ap (λ (x : KernelView). length x.processes) kernel ∙ processes;
      kernels = ap (λ (x : KernelView). x.kernels) kernel ∙ kernels;
      lists = lists;
    }

pub noted-of : (k : KernelView) (effect : Effect) (o : Outcome) (noted : Noted) → IsEffectOf k effect o → noted.stamp ≡ effect.stamp → noted.steps ≡ effect.steps → IsNotedOf o noted
noted-of k effect o noted is stamp steps = record { stamp = stamp ∙ is.stamp; steps = ap (λ v. v.items) steps ∙ is.steps }

-- what two facts about a success give
pub on_ok_both : {T E : Type 0} {P Q R : Type 0} (r : Result T E) → (P → Q → R) → OnOk r P → OnOk r Q → OnOk r R
on_ok_both (Ok x) f p q = f p q
on_ok_both (Err e) f p q = tt

pub if_ok_both : {T E : Type 0} {P : T → Type 0} {Q : Type 0} {R : T → Type 0} (r : Result T E) → ((x : T) → P x → Q → R x) → IfOk r P → OnOk r Q → IfOk r R
if_ok_both (Ok x) f p q = f x p q
if_ok_both (Err e) f p q = tt

pub if_ok : {T E : Type 0} {P R : T → Type 0} (r : Result T E) → ((x : T) → P x → R x) → IfOk r P → IfOk r R
if_ok (Ok x) f p = f x p
if_ok (Err e) f p = tt

pub on_ok : {T E : Type 0} {P R : Type 0} (r : Result T E) → (P → R) → OnOk r P → OnOk r R
on_ok (Ok x) f p = f p
on_ok (Err e) f p = tt
