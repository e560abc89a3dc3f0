-- A node between two turns, and amid one.
use Rattle.std.specs.Prelude.{◌≡◌, ◌<◌, ℕ, false, List, [], length}
use Rattle.charlotte_calls.specs.Setting.{IsValid}
use Rattle.charlotte_calls.specs.declared.names.Pid.{Pid}
use Rattle.charlotte_calls.specs.declared.setting.Setting.{Setting}
use Rattle.kernel_core.specs.State.{state_of}
use Rattle.kernel_entries.specs.declared.entry.Entry.{Entry}
use Rattle.kernel_net.specs.Letters.{greatest_stamp}
use Rattle.kernel_net.specs.Ports.{place_of}
use Rattle.program_runs.specs.Local.{LocalEvent}
use Rattle.kernel_turns.specs.Nodes.{IsNode, Meaning}
use Rattle.kernel_turns.specs.declared.base.Base.{Base}
use Rattle.kernel_turns.specs.declared.node.Node.{Node}

-- want of memory left kernel and journal as they were, and the place in the net
pub record SameRun (old new : Base) : Type 0 where
  pub kernel : state_of new.kernel ≡ state_of old.kernel
  pub processes : length new.kernel.processes ≡ length old.kernel.processes
  pub kernels : new.kernel.kernels ≡ old.kernel.kernels
  pub journal : new.journal.entries ≡ old.journal.entries
  pub orders : new.orders ≡ old.orders
  pub used : new.used ≡ old.used
  pub place : place_of new.port ≡ place_of old.port

-- it is a node of a valid setting
pub record IsSomeNode {P S W : Type 0} (m : Meaning P S) (HasSeen : W → List Entry → Type 0) (n : Node P W) : Type 0 where
  pub setting : Setting
  pub kernel : ℕ
  pub first : List (Pid × P)
  pub made : List LocalEvent
  pub valid : IsValid setting
  pub node : IsNode m HasSeen setting kernel first made n

-- memory was there, and neither its stamps nor its turns are used up
pub record IsAmidTurn {P S W : Type 0} (m : Meaning P S) (HasSeen : W → List Entry → Type 0) (n : Node P W) : Type 0 where
  pub some : IsSomeNode m HasSeen n
  pub unspoiled : n.spoiled ≡ false
  pub early : n.base.kernel.stamp < greatest_stamp
  pub turns : n.base.used < n.base.orders.limit
  -- its letters were put
  pub unsent : n.base.outbox.unsent.items ≡ []
