-- Nodes as a world: one event.
use Rattle.std.proofs.Common.{◌≡◌, ◌≢◌, inl, inr, ℕ, zero, suc, true, ◌<◌, ◌≤◌, ◌&&◌, arith, nat_eq, List, [], ◌∷◌, ◌++◌, length, map, set, get_or, slice_get, drop, All, None, Some, cond, ap, sym, subst, ◌∙◌, refl, length-set}
use Rattle.std.proofs.lemmas.List.Elements.{All-set, All-get_or}
use Rattle.std.proofs.lemmas.Bool.Decides.{eqb_tells}
use Rattle.charlotte_packets.specs.Packets.{packet_picture, what_picture}
use Rattle.charlotte_calls.specs.declared.calls.Call.{Call}
use Rattle.charlotte_calls.specs.declared.names.EndId.{EndId}
use Rattle.charlotte_calls.specs.declared.names.Pid.{Pid}
use Rattle.charlotte_packets.specs.declared.packet.Packet.{Packet}
use Rattle.charlotte_packets.specs.declared.picture.Picture.{Picture}
use Rattle.charlotte_packets.specs.declared.picture.PictureWhat.{PictureWhat}
use Rattle.charlotte_calls.specs.declared.setting.Setting.{Setting}
use Rattle.charlotte_packets.specs.declared.work.Effect.{Effect}
use Rattle.end_table.specs.Table.{entries}
use Rattle.kernel_core.specs.State.{KernelView, ended, state_of}
use Rattle.kernel_step.specs.Calls.{IsCallWith}
use Rattle.kernel_step.specs.Kernel.{Kernel, Outcome, call_step, take_step, without_answer}
use Rattle.kernel_step.specs.Start.{start_kernel}
use Rattle.kernel_world.specs.World.{World, Event, Calls, Takes, kernel_of, outcome, removes, rest, adds_all, takes_first, to_kernel}
use Rattle.kernel_world.proofs.Packets.{adds_all-own, adds_all-other}
use Rattle.packet_queue.specs.Queue.{picture_in, pictures}
use Rattle.packet_queue.specs.declared.packed.Packed.{Packed}
use Rattle.kernel_nodes.specs.Nodes.{sent_to, AreNodes, Happens, IsNodeOf, IsNotedOf, IsAfter, IsFirst, TakesTold, world_of}
use Rattle.kernel_nodes.specs.declared.node.Node.{Node}
use Rattle.kernel_nodes.specs.declared.nodes.Noted.{Noted}
use Rattle.kernel_nodes.proofs.Lists.{map-set_same, map-set_other, map-read}
use Rattle.kernel_nodes.proofs.Sent.{sent_in}
use Rattle.kernel_nodes.proofs.Events.{IsEffectOf, IsSentBy, effect_of, noted-of}

-- ---- what is at one kernel

abbrev pub state_at : Node → Kernel
state_at n = state_of n.kernel

pub kernel_at : (s : Setting) (ns : List Node) (k : ℕ) (node : Node) → k < length ns → node ≡ get_or ns k node → (world_of s ns).kernel k ≡ state_of node.kernel
kernel_at s ns k node below at = map-read state_at ns k node (start_kernel s k) below at

pub packets_at : (s : Setting) (ns : List Node) (k : ℕ) (node : Node) → k < length ns → node ≡ get_or ns k node → (to : ℕ) → (world_of s ns).packets k to ≡ sent_to node to
packets_at s ns k node below at to = ap (λ (f : ℕ → List Picture). f to) (map-read sent_to ns k node (λ _. []) below at)

pub node_at : (s : Setting) (ns : List Node) (k : ℕ) (node : Node) → All (IsNodeOf s) ns → k < length ns → node ≡ get_or ns k node → IsNodeOf s node
node_at s ns k node all below at = subst (IsNodeOf s) (sym at) (All-get_or (IsNodeOf s) ns k node below all)

state_of-table : (k : KernelView) → (state_of k).table ≡ entries k.table
unfolding state_of
state_of-table k = refl

-- an element that is not the default has a number below the length
below-read : {X Y : Type 0} (f : X → Y) (xs : List X) (i : ℕ) (d : Y) → (get_or (map f xs) i d ≡ d → ⊥) → i < length xs
below-read f [] i d other = absurd (other refl)
below-read f (x ∷ xs) zero d other = omega arith
below-read f (x ∷ xs) (suc i) d other = let below : i < length xs = below-read f xs i d other in omega (arith, below)

-- ---- one node changes

kernel-set : (s : Setting) (ns : List Node) (k : ℕ) (new : Node) (q : ℕ) → k < length ns → (world_of s (set ns k new)).kernel q ≡ cond (nat_eq q k) (state_of new.kernel) ((world_of s ns).kernel q)
kernel-set s ns k new q below = elim (eqb_tells q k) [
  | inl e ↦ ap (λ i. get_or (map state_at (set ns k new)) i (start_kernel s q)) e.1 ∙ map-set_same state_at ns k new (start_kernel s q) below ∙ sym (ap (λ b. cond b (state_of new.kernel) ((world_of s ns).kernel q)) e.0)
  | inr e ↦ map-set_other state_at ns k q new (start_kernel s q) e.1 ∙ sym (ap (λ b. cond b (state_of new.kernel) ((world_of s ns).kernel q)) e.0)
]

packets-set : (s : Setting) (ns : List Node) (k : ℕ) (new : Node) (from to : ℕ) → k < length ns → (world_of s (set ns k new)).packets from to ≡ cond (nat_eq from k) (sent_to new to) ((world_of s ns).packets from to)
packets-set s ns k new from to below = elim (eqb_tells from k) [
  | inl e ↦ ap (λ i. get_or (map sent_to (set ns k new)) i (λ _. []) to) e.1 ∙ ap (λ (f : ℕ → List Picture). f to) (map-set_same sent_to ns k new (λ _. []) below) ∙ sym (ap (λ b. cond b (sent_to new to) ((world_of s ns).packets from to)) e.0)
  | inr e ↦ ap (λ (f : ℕ → List Picture). f to) (map-set_other sent_to ns k from new (λ _. []) e.1) ∙ sym (ap (λ b. cond b (sent_to new to) ((world_of s ns).packets from to)) e.0)
]

-- the lists alone of a node change: one kernel's list is another
pub record IsWithSent (s : Setting) (ns ms : List Node) (packets : ℕ → ℕ → List Picture) : Type 0 where
  pub kernel : (q : ℕ) → (world_of s ms).kernel q ≡ (world_of s ns).kernel q
  pub packets_are : (from to : ℕ) → (world_of s ms).packets from to ≡ packets from to
  pub nodes : All (IsNodeOf s) ms
  pub count : length ms ≡ length ns

pub with_sent : (s : Setting) (ns : List Node) (k : ℕ) (node new : Node) → k < length ns → node ≡ get_or ns k node → All (IsNodeOf s) ns → new.kernel ≡ node.kernel → length new.sent.items ≡ length node.sent.items
    → IsWithSent s ns (set ns k new) (λ from to. cond (nat_eq from k) (sent_to new to) ((world_of s ns).packets from to))
with_sent s ns k node new below at all kernel lists =
    record {
      kernel = λ q. kernel-set s ns k new q below ∙ elim (eqb_tells q k) as (λ _. cond (nat_eq q k) (state_of new.kernel) ((world_of s ns).kernel q) ≡ (world_of s ns).kernel q) [
        | inl e ↦ ap (λ b. cond b (state_of new.kernel) ((world_of s ns).kernel q)) e.0 ∙ ap state_of kernel ∙ sym (kernel_at s ns k node below at) ∙ ap (λ i. get_or (map state_at ns) i (start_kernel s k)) (sym e.1) ∙ ap (λ i. get_or (map state_at ns) q (start_kernel s i)) (sym e.1)
        | inr e ↦ ap (λ b. cond b (state_of new.kernel) ((world_of s ns).kernel q)) e.0
      ];
      packets_are = λ from to. packets-set s ns k new from to below;
      nodes = All-set (IsNodeOf s) ns k new (record { processes = ap (λ (x : KernelView). length x.processes) kernel ∙ was.processes; kernels = ap (λ (x : KernelView). x.kernels) kernel ∙ was.kernels; lists = lists ∙ was.lists }) all;
      count = length-set ns k new;
    }
  where
    was : IsNodeOf s node
    was = node_at s ns k node all below at

-- the kernel of a node changes alone
record IsWithKernel (s : Setting) (ns ms : List Node) (k : ℕ) (x : Kernel) : Type 0 where
  pub kernel : (q : ℕ) → (world_of s ms).kernel q ≡ cond (nat_eq q k) x ((world_of s ns).kernel q)
  pub packets_are : (from to : ℕ) → (world_of s ms).packets from to ≡ (world_of s ns).packets from to
  pub nodes : All (IsNodeOf s) ms
  pub count : length ms ≡ length ns

with_kernel : (s : Setting) (ns : List Node) (k : ℕ) (node new : Node) → k < length ns → node ≡ get_or ns k node → All (IsNodeOf s) ns → length new.kernel.processes ≡ length node.kernel.processes → new.kernel.kernels ≡ node.kernel.kernels
    → new.sent ≡ node.sent → IsWithKernel s ns (set ns k new) k (state_of new.kernel)
with_kernel s ns k node new below at all processes kernels sent =
    record {
      kernel = λ q. kernel-set s ns k new q below;
      packets_are = λ from to. packets-set s ns k new from to below ∙ elim (eqb_tells from k) as (λ _. cond (nat_eq from k) (sent_to new to) ((world_of s ns).packets from to) ≡ (world_of s ns).packets from to) [
        | inl x ↦ ap (λ b. cond b (sent_to new to) ((world_of s ns).packets from to)) x.0 ∙ ap (λ lists. sent_in lists.items to) sent
            ∙ sym (packets_at s ns k node below at to) ∙ ap (λ i. (world_of s ns).packets i to) (sym x.1)
        | inr x ↦ ap (λ b. cond b (sent_to new to) ((world_of s ns).packets from to)) x.0
      ];
      nodes = All-set (IsNodeOf s) ns k new (record { processes = processes ∙ was.processes; kernels = kernels ∙ was.kernels; lists = ap (λ lists. length lists.items) sent ∙ was.lists }) all;
      count = length-set ns k new;
    }
  where
    was : IsNodeOf s node
    was = node_at s ns k node all below at

-- ms are the nodes ns once the packet that an event at kernel k takes is gone; that kernel may be another
record IsReadied (s : Setting) (ns ms : List Node) (k : ℕ) (packets : ℕ → ℕ → List Picture) : Type 0 where
  pub kernel : (q : ℕ) → q ≢ k → (world_of s ms).kernel q ≡ (world_of s ns).kernel q
  pub packets_are : (from to : ℕ) → (world_of s ms).packets from to ≡ packets from to
  pub nodes : All (IsNodeOf s) ms
  pub count : length ms ≡ length ns

unsent : (s : Setting) (ns : List Node) (k : ℕ) → All (IsNodeOf s) ns → IsReadied s ns ns k (λ from to. (world_of s ns).packets from to)
unsent s ns k all = record { kernel = λ q other. refl; packets_are = λ from to. refl; nodes = all; count = refl }

event_happens : (s : Setting) (ns ms : List Node) (mid new : Node) (e : Event) (noted : Noted) → AreNodes s ns → kernel_of e < length ms → mid ≡ get_or ms (kernel_of e) mid
    → IsReadied s ns ms (kernel_of e) (removes e (world_of s ns).packets) → IsAfter (outcome (world_of s ns) e) mid new → IsNotedOf (outcome (world_of s ns) e) noted → Happens s e noted ns (set ms (kernel_of e) new)
event_happens s ns ms mid new e noted are below at is event noted_is =
    record {
      world = λ j. record { kernel = λ q. kernel q j; packets = λ from to. packets from to j };
      nodes = record { count = length-set ms k new ∙ is.count ∙ are.count; nodes = All-set (IsNodeOf s) ms k new here is.nodes };
      noted = noted_is;
    }
  where
    k : ℕ
    k = kernel_of e

    w : World
    w = world_of s ns

    o : Outcome
    o = outcome w e

    was : IsNodeOf s mid
    was = node_at s ms k mid is.nodes below at

    here : IsNodeOf s new
    here = record { processes = event.processes ∙ was.processes; kernels = event.kernels ∙ was.kernels; lists = event.lists ∙ was.lists }

    kernel : (q : ℕ) → (world_of s (set ms k new)).kernel q ≡ cond (nat_eq q k) o.kernel (w.kernel q)
    kernel q = kernel-set s ms k new q below ∙ ap (λ (x : Kernel). cond (nat_eq q k) x ((world_of s ms).kernel q)) event.kernel ∙ elim (eqb_tells q k) as (λ _. cond (nat_eq q k) o.kernel ((world_of s ms).kernel q) ≡ cond (nat_eq q k) o.kernel (w.kernel q)) [
      | inl x ↦ ap (λ b. cond b o.kernel ((world_of s ms).kernel q)) x.0 ∙ sym (ap (λ b. cond b o.kernel (w.kernel q)) x.0)
      | inr x ↦ ap (λ (y : Kernel). cond (nat_eq q k) o.kernel y) (is.kernel q x.1)
    ]

    packets : (from to : ℕ) → (world_of s (set ms k new)).packets from to ≡ adds_all k o.packets (removes e w.packets) from to
    packets from to = packets-set s ms k new from to below ∙ elim (eqb_tells from k) as (λ _. cond (nat_eq from k) (sent_to new to) ((world_of s ms).packets from to) ≡ adds_all k o.packets (removes e w.packets) from to) [
      | inl x ↦ ap (λ b. cond b (sent_to new to) ((world_of s ms).packets from to)) x.0 ∙ event.sent to
          ∙ ap (λ qs. qs ++ to_kernel to o.packets) (sym (packets_at s ms k mid below at to) ∙ ap (λ i. (world_of s ms).packets i to) (sym x.1) ∙ is.packets_are from to)
          ∙ sym (adds_all-own k o.packets (removes e w.packets) from to x.0)
      | inr x ↦ ap (λ b. cond b (sent_to new to) ((world_of s ms).packets from to)) x.0 ∙ is.packets_are from to ∙ sym (adds_all-other k o.packets (removes e w.packets) from to x.0)
    ]

-- ---- a call

abbrev CallHappens : Setting → ℕ → Pid → Call → Noted → List Node → List Node → Type 0
CallHappens s k p c noted old new = (mine : List EndId) × IsCallWith p ((world_of s old).kernel k).table mine c × Happens s (Calls k p c mine) noted old new

-- a node made the call
abbrev pub NodeCalls : Pid → Call → Noted → Node → Node → Type 0
NodeCalls p c noted old new =
    (mine : List EndId) × IsCallWith p (entries old.kernel.table) mine c
    × IsNotedOf (call_step (without_answer p (state_of old.kernel)) p mine c) noted
    × IsAfter (call_step (without_answer p (state_of old.kernel)) p mine c) old new

pub call_happens : (s : Setting) (ns : List Node) (k i : ℕ) (node new : Node) (p : Pid) (c : Call) (noted : Noted) → AreNodes s ns → i ≡ k → i < length ns → node ≡ get_or ns i node → NodeCalls p c noted node new → CallHappens s k p c noted ns (set ns i new)
call_happens s ns k i node new p c noted are i_is below at did =
    subst (λ n. CallHappens s n p c noted ns (set ns i new)) i_is (
      mine,
      subst (λ t. IsCallWith p t mine c) (sym (ap (λ (x : Kernel). x.table) is ∙ state_of-table node.kernel)) did.1,
      event_happens s ns ns node new (Calls i p c mine) noted are below at (unsent s ns i are.nodes)
          (subst (λ (x : Kernel). IsAfter (call_step (without_answer p x) p mine c) node new) (sym is) did.3)
          (subst (λ (x : Kernel). IsNotedOf (call_step (without_answer p x) p mine c) noted) (sym is) did.2),
    )
  where
    mine : List EndId
    mine = did.0

    is : (world_of s ns).kernel i ≡ state_of node.kernel
    is = kernel_at s ns i node below at

-- ---- nothing happens

-- a node keeps its kernel and what it sent
pub world_kept : (s : Setting) (ns : List Node) (k : ℕ) (node new : Node) → AreNodes s ns → k < length ns → node ≡ get_or ns k node → new.kernel ≡ node.kernel → new.sent ≡ node.sent → AreNodes s (set ns k new) × (world_of s (set ns k new) ≡ world_of s ns)
world_kept s ns k node new are below at kernel sent = (
  record { count = is.count ∙ are.count; nodes = is.nodes },
  (λ j. record { kernel = λ q. is.kernel q j; packets = λ from to. packets from to j }),
)
  where
    is : IsWithSent s ns (set ns k new) (λ from to. cond (nat_eq from k) (sent_to new to) ((world_of s ns).packets from to))
    is = with_sent s ns k node new below at are.nodes kernel (ap (λ lists. length lists.items) sent)

    packets : (from to : ℕ) → (world_of s (set ns k new)).packets from to ≡ (world_of s ns).packets from to
    packets from to = is.packets_are from to ∙ elim (eqb_tells from k) as (λ _. cond (nat_eq from k) (sent_to new to) ((world_of s ns).packets from to) ≡ (world_of s ns).packets from to) [
      | inl x ↦ ap (λ b. cond b (sent_to new to) ((world_of s ns).packets from to)) x.0 ∙ ap (λ lists. sent_in lists.items to) sent
          ∙ sym (packets_at s ns k node below at to) ∙ ap (λ i. (world_of s ns).packets i to) (sym x.1)
      | inr x ↦ ap (λ b. cond b (sent_to new to) ((world_of s ns).packets from to)) x.0
    ]

-- ---- a taking

-- the first of these packets, as it is read
first-none : (what : PictureWhat) (qs : List Picture) → None ≡ slice_get qs 0 → IsFirst what qs → ⊥
first-none what [] e is = is
first-none what (q ∷ qs) e is = absurd (cc)

heads : (q x : Picture) → Some q ≡ Some x → q ≡ x
heads q x e = cc

first-other : (what : PictureWhat) (q : Picture) (qs : List Picture) → Some q ≡ slice_get qs 0 → (q.what ≡ what → ⊥) → IsFirst what qs → ⊥
first-other what q [] e not is = is
first-other what q (x ∷ xs) e not is = not (ap (λ (y : Picture). y.what) (heads q x e) ∙ is)

first-told : (what : PictureWhat) (q : Picture) (qs : List Picture) → Some q ≡ slice_get qs 0 → q.what ≡ what → IsFirst what qs
first-told what q [] e told = absurd (cc)
first-told what q (x ∷ xs) e told = sym (ap (λ (y : Picture). y.what) (heads q x e)) ∙ told

-- a kernel is not there
pub untold_away : (s : Setting) (ns : List Node) (from to : ℕ) (what : PictureWhat) (new : List Node) → AreNodes s ns → length ns ≤ to → TakesTold s from to what None ns new
untold_away s ns from to what new are away below is = let count : length ns ≡ s.kernels = are.count in absurd (omega (arith, count, away, below))

-- there is no packet
pub untold_none : (s : Setting) (ns : List Node) (from to : ℕ) (what : PictureWhat) (new : List Node) → None ≡ slice_get ((world_of s ns).packets from to) 0 → TakesTold s from to what None ns new
untold_none s ns from to what new none below = first-none what ((world_of s ns).packets from to) none

-- the first packet tells something else
pub untold_other : (s : Setting) (ns : List Node) (from to : ℕ) (packet : Packet) (what : PictureWhat) (new : List Node) → Some (packet_picture packet) ≡ slice_get ((world_of s ns).packets from to) 0 → (what_picture packet.what ≡ what → ⊥) → TakesTold s from to what None ns new
untold_other s ns from to packet what new first other below = first-other what (packet_picture packet) ((world_of s ns).packets from to) first other

-- it tells this, and was taken
pub told_first : (s : Setting) (ns : List Node) (from to : ℕ) (packet : Packet) (what : PictureWhat) (noted : Noted) (new : List Node) → AreNodes s ns → to < length ns
    → Some (packet_picture packet) ≡ slice_get ((world_of s ns).packets from to) 0 → what_picture packet.what ≡ what → Happens s (Takes to from) noted ns new → TakesTold s from to what (Some noted) ns new
told_first s ns from to packet what noted new are below first is taken = (
  subst (λ n. to < n) are.count below,
  first-told what (packet_picture packet) ((world_of s ns).packets from to) first is,
  taken,
)

-- a packet is under way from a kernel that is there
pub from_there : (s : Setting) (ns : List Node) (from to : ℕ) (q : Picture) → AreNodes s ns → Some q ≡ slice_get ((world_of s ns).packets from to) 0 → from < s.kernels
from_there s ns from to q are first = subst (λ n. from < n) are.count (below-read sent_to ns from (λ _. []) nothing)
  where
    nothing : get_or (map sent_to ns) from (λ _. []) ≡ (λ _. []) → ⊥
    nothing e = let no : Some q ≡ None = first ∙ ap (λ (f : ℕ → List Picture). slice_get (f to) 0) e in absurd (cc)

-- a packet that is under way is in the queue of its node, and the first of those in front
pub is_there : (front : List (ℕ × Packet)) (behind : List Packed) (q : Picture) → (front ≡ [] → behind ≡ []) → slice_get (pictures front behind) 0 ≡ Some q → (sent : ℕ × Packet) × (others : List (ℕ × Packet)) × (front ≡ sent ∷ others)
is_there [] behind q empty first =
    let no : None ≡ Some q = sym (ap (λ b. slice_get (pictures [] b) 0) (empty refl)) ∙ first in absurd (cc)
is_there (sent ∷ others) behind q empty first = (sent, others, refl)

pub under_way : (s : Setting) (ns : List Node) (from to i : ℕ) (q : Picture) (node : Node) (front : List (ℕ × Packet)) (behind : List Packed) → from ≡ i → i < length ns → node ≡ get_or ns i node → pictures front behind ≡ sent_to node to
    → (front ≡ [] → behind ≡ []) → slice_get ((world_of s ns).packets from to) 0 ≡ Some q → (sent : ℕ × Packet) × (others : List (ℕ × Packet)) × (front ≡ sent ∷ others)
under_way s ns from to i q node front behind is_i below at is empty first =
    is_there front behind q empty (ap (λ qs. slice_get qs 0) (is ∙ sym (packets_at s ns i node below at to) ∙ ap (λ m. (world_of s ns).packets m to) (sym is_i)) ∙ first)

-- once the first of those in front is taken
pub taken-lent : (front left : List (ℕ × Packet)) (behind after : List Packed) (sent : ℕ × Packet) (others : List (ℕ × Packet)) → front ≡ sent ∷ others → left ≡ drop 1 front → after ≡ behind
    → picture_in sent ∷ pictures left after ≡ pictures front behind
taken-lent front left behind after sent others is left_is same =
    ap (λ qs. picture_in sent ∷ qs) (ap (λ l. pictures l after) (left_is ∙ ap (drop 1) is) ∙ ap (pictures others) same) ∙ sym (ap (λ f. pictures f behind) is)

same-number : (n : ℕ) → nat_eq n n ≡ true
same-number n = elim (eqb_tells n n) [
  | inl e ↦ e.0
  | inr e ↦ absurd (e.1 refl)
]

-- once the node of kernel i lent a queue, each node is one of the setting still
pub after-lent : (s : Setting) (ns : List Node) (i j : ℕ) (n0 n1 m0 : Node) → AreNodes s ns → i < length ns → n0 ≡ get_or ns i n0 → n1.kernel ≡ n0.kernel → length n1.sent.items ≡ length n0.sent.items → j < length ns
    → m0 ≡ get_or (set ns i n1) j m0 → IsNodeOf s m0
after-lent s ns i j n0 n1 m0 are below at kernel lists below_to at_taker =
    let one = with_sent s ns i n0 n1 below at are.nodes kernel lists in
    node_at s (set ns i n1) j m0 one.nodes (subst (λ m. j < m) (sym one.count) below_to) at_taker

-- node i lends its queue of packets to kernel `to`, node j takes the first of it, and the queue goes back; at last node j sends
pub record IsTaking (ns : List Node) (to i j : ℕ) (first : Picture) (left : List Picture) (n0 n1 m0 m1 p0 p1 r0 : Node) : Type 0 where
  pub below : i < length ns
  pub below_to : j < length ns
  pub lends_at : n0 ≡ get_or ns i n0
  pub lent : first ∷ left ≡ sent_to n0 to
  pub lends : n1.kernel ≡ n0.kernel
  pub lends_lists : length n1.sent.items ≡ length n0.sent.items
  pub lends_others : (q : ℕ) → q ≢ to → sent_to n1 q ≡ sent_to n0 q
  pub takes_at : m0 ≡ get_or (set ns i n1) j m0
  pub takes : m1.sent ≡ m0.sent
  pub takes_processes : length m1.kernel.processes ≡ length m0.kernel.processes
  pub takes_kernels : m1.kernel.kernels ≡ m0.kernel.kernels
  pub gets_at : p0 ≡ get_or (set (set ns i n1) j m1) i p0
  pub gets_list : sent_to p1 to ≡ left
  pub gets : p1.kernel ≡ p0.kernel
  pub gets_lists : length p1.sent.items ≡ length p0.sent.items
  pub gets_others : (q : ℕ) → q ≢ to → sent_to p1 q ≡ sent_to p0 q
  pub sends_at : r0 ≡ get_or (set (set (set ns i n1) j m1) i p1) j r0

module _ (s : Setting) (ns : List Node) (from to : ℕ) (are : AreNodes s ns) (first : Picture) (left : List Picture) (n0 n1 m0 m1 p0 p1 r0 : Node) (is : IsTaking ns to from to first left n0 n1 m0 m1 p0 p1 r0) where
  abbrev w : World
  w = world_of s ns

  abbrev lent : List Node
  lent = set ns from n1

  abbrev took : List Node
  took = set lent to m1

  abbrev back : List Node
  back = set took from p1

  one : IsWithSent s ns lent (λ f t. cond (nat_eq f from) (sent_to n1 t) (w.packets f t))
  one = with_sent s ns from n0 n1 is.below is.lends_at are.nodes is.lends is.lends_lists

  two : IsWithKernel s lent took to (state_of m1.kernel)
  two = with_kernel s lent to m0 m1 (subst (λ m. to < m) (sym one.count) is.below_to) is.takes_at one.nodes is.takes_processes is.takes_kernels is.takes

  below_two : from < length took
  below_two = subst (λ m. from < m) (sym (two.count ∙ one.count)) is.below

  three : IsWithSent s took back (λ f t. cond (nat_eq f from) (sent_to p1 t) ((world_of s took).packets f t))
  three = with_sent s took from p0 p1 below_two is.gets_at two.nodes is.gets is.gets_lists

  below_three : to < length back
  below_three = subst (λ m. to < m) (sym (three.count ∙ two.count ∙ one.count)) is.below_to

  -- the kernel that took the packet names as many as the node that sends has lists
  takes-lists : m1.kernel.kernels ≡ length r0.sent.items
  takes-lists =
      is.takes_kernels ∙ (node_at s lent to m0 one.nodes (subst (λ m. to < m) (sym one.count) is.below_to) is.takes_at).kernels
      ∙ sym (node_at s back to r0 three.nodes below_three is.sends_at).lists

  inner : (t : ℕ) → sent_to p1 t ≡ cond (nat_eq t to) (rest (w.packets from t)) (w.packets from t)
  inner t = elim (eqb_tells t to) as (λ _. sent_to p1 t ≡ cond (nat_eq t to) (rest (w.packets from t)) (w.packets from t)) [
    | inl x ↦ ap (sent_to p1) x.1 ∙ is.gets_list ∙ ap rest (is.lent ∙ sym (packets_at s ns from n0 is.below is.lends_at to))
        ∙ ap (λ i. rest (w.packets from i)) (sym x.1) ∙ sym (ap (λ b. cond b (rest (w.packets from t)) (w.packets from t)) x.0)
    | inr x ↦ is.gets_others t x.1 ∙ sym (packets_at s took from p0 below_two is.gets_at t) ∙ two.packets_are from t ∙ one.packets_are from t
        ∙ ap (λ b. cond b (sent_to n1 t) (w.packets from t)) (same-number from) ∙ is.lends_others t x.1 ∙ sym (packets_at s ns from n0 is.below is.lends_at t)
        ∙ sym (ap (λ b. cond b (rest (w.packets from t)) (w.packets from t)) x.0)
  ]

  packets : (f t : ℕ) → (world_of s back).packets f t ≡ removes (Takes to from) w.packets f t
  packets f t = three.packets_are f t ∙ elim (eqb_tells f from) as (λ _. cond (nat_eq f from) (sent_to p1 t) ((world_of s took).packets f t) ≡ cond (nat_eq f from && nat_eq t to) (rest (w.packets f t)) (w.packets f t)) [
    | inl x ↦ ap (λ b. cond b (sent_to p1 t) ((world_of s took).packets f t)) x.0 ∙ inner t ∙ ap (λ i. cond (nat_eq t to) (rest (w.packets i t)) (w.packets i t)) (sym x.1)
        ∙ sym (ap (λ b. cond (b && nat_eq t to) (rest (w.packets f t)) (w.packets f t)) x.0)
    | inr x ↦ ap (λ b. cond b (sent_to p1 t) ((world_of s took).packets f t)) x.0 ∙ two.packets_are f t ∙ one.packets_are f t
        ∙ ap (λ b. cond b (sent_to n1 t) (w.packets f t)) x.0 ∙ sym (ap (λ b. cond (b && nat_eq t to) (rest (w.packets f t)) (w.packets f t)) x.0)
  ]

  kernel : (q : ℕ) → q ≢ to → (world_of s back).kernel q ≡ w.kernel q
  kernel q other = three.kernel q ∙ two.kernel q ∙ elim (eqb_tells q to) as (λ _. cond (nat_eq q to) (state_of m1.kernel) ((world_of s lent).kernel q) ≡ w.kernel q) [
    | inl x ↦ absurd (other x.1)
    | inr x ↦ ap (λ b. cond b (state_of m1.kernel) ((world_of s lent).kernel q)) x.0 ∙ one.kernel q
  ]

  readied : IsReadied s ns back to (removes (Takes to from) w.packets)
  readied = record { kernel = kernel; packets_are = packets; nodes = three.nodes; count = three.count ∙ two.count ∙ one.count }

  -- the kernel that took is that which sends
  same : state_of r0.kernel ≡ state_of m1.kernel
  same = sym (kernel_at s back to r0 below_three is.sends_at) ∙ three.kernel to ∙ two.kernel to ∙ ap (λ b. cond b (state_of m1.kernel) ((world_of s lent).kernel to)) (same-number to)

  take_happens : (r1 : Node) (effect : Effect) (noted : Noted) → ended (state_of m1.kernel) effect ≡ take_step (state_of m0.kernel) from first → effect.stamp ≡ m1.kernel.stamp
      → IsSentBy effect noted r0 r1 → Happens s (Takes to from) noted ns (set back to r1)
  take_happens r1 effect noted step stamp sent =
      event_happens s ns back r0 r1 (Takes to from) noted are below_three is.sends_at readied (gives (λ o. IsAfter o r0 r1) after) (gives (λ o. IsNotedOf o noted) (noted-of m1.kernel effect o noted about sent.stamp sent.steps))
    where
      o : Outcome
      o = take_step (state_of m0.kernel) from first

      about : IsEffectOf m1.kernel effect o
      about = effect_of m1.kernel effect o step stamp

      after : IsAfter o r0 r1
      after = record {
        kernel = ap state_of sent.kernel ∙ same ∙ about.kernel;
        sent = λ t. sent.sent t ∙ ap (λ qs. sent_to r0 t ++ to_kernel t qs) about.packets;
        processes = ap (λ (x : KernelView). length x.processes) sent.kernel;
        kernels = ap (λ (x : KernelView). x.kernels) sent.kernel;
        lists = sent.lists;
      }

      held : w.packets from to ≡ first ∷ left
      held = packets_at s ns from n0 is.below is.lends_at to ∙ sym is.lent

      was : state_of m0.kernel ≡ w.kernel to
      was = sym (kernel_at s lent to m0 (subst (λ m. to < m) (sym one.count) is.below_to) is.takes_at) ∙ one.kernel to

      gives : (P : Outcome → Type 0) → P o → P (takes_first (w.kernel to) from (w.packets from to))
      gives P h = subst (λ (qs : List Picture). P (takes_first (w.kernel to) from qs)) (sym held) (subst (λ (x : Kernel). P (take_step x from first)) was h)

-- the same, where the nodes are found by equal numbers
abbrev TakeHappens : Setting → List Node → ℕ → ℕ → ℕ → ℕ → Type 0
TakeHappens s ns from to i j =
    (first : Picture) (left : List Picture) (n0 n1 m0 m1 p0 p1 r0 r1 : Node) (effect : Effect) (noted : Noted) → IsTaking ns to i j first left n0 n1 m0 m1 p0 p1 r0
    → ended (state_of m1.kernel) effect ≡ take_step (state_of m0.kernel) from first → effect.stamp ≡ m1.kernel.stamp → IsSentBy effect noted r0 r1
    → Happens s (Takes to from) noted ns (set (set (set (set ns i n1) j m1) i p1) j r1)

pub take_happens_at : (s : Setting) (ns : List Node) (from to i j : ℕ) → AreNodes s ns → from ≡ i → to ≡ j → TakeHappens s ns from to i j
take_happens_at s ns from to i j are is_i is_j =
    subst (λ m. TakeHappens s ns from to i m) is_j (subst (λ m. TakeHappens s ns from to m to) is_i
    (λ first left n0 n1 m0 m1 p0 p1 r0 r1 effect noted is. take_happens s ns from to are first left n0 n1 m0 m1 p0 p1 r0 is r1 effect noted))

abbrev ListsFit : Setting → List Node → ℕ → ℕ → ℕ → ℕ → Type 0
ListsFit s ns from to i j =
    (first : Picture) (left : List Picture) (n0 n1 m0 m1 p0 p1 r0 : Node) → IsTaking ns to i j first left n0 n1 m0 m1 p0 p1 r0 → m1.kernel.kernels ≡ length r0.sent.items

pub takes-lists_at : (s : Setting) (ns : List Node) (from to i j : ℕ) → AreNodes s ns → from ≡ i → to ≡ j → ListsFit s ns from to i j
takes-lists_at s ns from to i j are is_i is_j =
    subst (λ m. ListsFit s ns from to i m) is_j (subst (λ m. ListsFit s ns from to m to) is_i (λ first left n0 n1 m0 m1 p0 p1 r0 is. takes-lists s ns from to are first left n0 n1 m0 m1 p0 p1 r0 is))
