-- Kernels with what they sent, as a world.
use Rattle.std.specs.Prelude.{◌≡◌, ◌<◌, ℕ, List, [], ◌∷◌, ◌++◌, length, map, All, slice_index_or, Option, Some, None}
use Rattle.charlotte_packets.specs.declared.picture.Picture.{Picture}
use Rattle.charlotte_packets.specs.declared.picture.PictureWhat.{PictureWhat}
use Rattle.charlotte_calls.specs.declared.setting.Setting.{Setting}
use Rattle.kernel_core.specs.State.{KernelView, state_of}
use Rattle.kernel_step.specs.Kernel.{Outcome}
use Rattle.kernel_step.specs.Start.{start_kernel}
use Rattle.kernel_world.specs.World.{World, Event, Takes, happens, outcome, to_kernel}
use Rattle.kernel_nodes.specs.declared.node.Node.{Node}
use Rattle.kernel_nodes.specs.declared.nodes.Noted.{Noted}

-- the packets that a kernel sent to a kernel and that were not taken, oldest first
abbrev pub sent_to : Node → ℕ → List Picture
sent_to node to = slice_index_or node.sent.items to []

-- a node of a setting: it has a place for each process and a queue for each kernel
pub record IsNodeOf (s : Setting) (node : Node) : Type 0 where
  pub processes : length node.kernel.processes ≡ length s.homes
  pub kernels : node.kernel.kernels ≡ s.kernels
  pub lists : length node.sent.items ≡ s.kernels

-- what is noted of an event is what it gives
pub record IsNotedOf (o : Outcome) (noted : Noted) : Type 0 where
  pub stamp : noted.stamp ≡ o.kernel.stamp
  pub steps : noted.steps.items ≡ o.steps

-- an event happened at a node: the kernel and the packets are those of the outcome
pub record IsAfter (o : Outcome) (old new : Node) : Type 0 where
  pub kernel : state_of new.kernel ≡ o.kernel
  pub sent : (to : ℕ) → sent_to new to ≡ sent_to old to ++ to_kernel to o.packets
  pub processes : length new.kernel.processes ≡ length old.kernel.processes
  pub kernels : new.kernel.kernels ≡ old.kernel.kernels
  pub lists : length new.sent.items ≡ length old.sent.items

-- ---- all nodes, by the numbers of their kernels

-- the state of each kernel, and the packets that are under way
abbrev pub world_of : Setting → List Node → World
world_of s nodes =
    record {
      kernel = λ k. slice_index_or (map (λ n. state_of n.kernel) nodes) k (start_kernel s k);
      packets = λ from to. slice_index_or (map sent_to nodes) from (λ _. []) to;
    }

-- the nodes of a setting
pub record AreNodes (s : Setting) (ns : List Node) : Type 0 where
  pub count : length ns ≡ s.kernels
  pub nodes : All (IsNodeOf s) ns

-- the kernel of this number, with a place for each process of the setting
pub record IsKernelAt (s : Setting) (number : ℕ) (ns : List Node) (k : KernelView) : Type 0 where
  pub below : number < s.kernels
  pub state : (world_of s ns).kernel number ≡ state_of k
  pub processes : length k.processes ≡ length s.homes

-- an event happened, and this is noted of it
pub record Happens (s : Setting) (e : Event) (made : Noted) (old new : List Node) : Type 0 where
  pub world : world_of s new ≡ happens (world_of s old) e
  pub nodes : AreNodes s new
  pub noted : IsNotedOf (outcome (world_of s old) e) made

-- the first of these packets tells this
abbrev pub IsFirst : PictureWhat → List Picture → Type 0
IsFirst what [] = ⊥
IsFirst what (q ∷ qs) = q.what ≡ what

-- the first packet from one kernel to another that is there was taken, where it tells this
abbrev pub TakesTold : Setting → ℕ → ℕ → PictureWhat → Option Noted → List Node → List Node → Type 0
TakesTold s from to what (Some noted) old new =
    (to < s.kernels) × IsFirst what ((world_of s old).packets from to) × Happens s (Takes to from) noted old new
TakesTold s from to what None old new = to < s.kernels → IsFirst what ((world_of s old).packets from to) → ⊥
