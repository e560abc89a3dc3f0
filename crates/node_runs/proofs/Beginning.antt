-- Nodes before their first turn are those of their setting.
use Rattle.std.proofs.Common.{◌≡◌, ℕ, ◌<◌, List, [], Some, length, refl, ap, arith}
use Rattle.std.specs.Prelude.{slice_get}
use Rattle.charlotte_calls.specs.Setting.{IsValid}
use Rattle.charlotte_calls.specs.declared.names.Pid.{Pid}
use Rattle.charlotte_calls.specs.declared.setting.Setting.{Setting}
use Rattle.kernel_entries.specs.declared.entry.Entry.{Entry}
use Rattle.kernel_net.specs.Ports.{IsNet}
use Rattle.kernel_turns.proofs.Starting.{Starts, node-started}
use Rattle.kernel_turns.specs.Nodes.{Meaning}
use Rattle.kernel_turns.specs.declared.node.Node.{Node}
use Rattle.node_runs.specs.Net.{AreNodes, places_of}

-- where each starts, and all ports are those of one net whose rings have room
pub nodes-started : {P S W : Type 0} (m : Meaning P S) (HasSeen : W → List Entry → Type 0) (s : Setting) (first : ℕ → List (Pid × P)) (ns : List (Node P W)) → IsValid s → length ns ≡ s.kernels → IsNet (places_of ns)
    → ((k : ℕ) (n : Node P W) → slice_get ns k ≡ Some n → (starts : Starts m HasSeen s k (first k) n) × (0 < starts.base.capacity)) → AreNodes m HasSeen s first (λ k. []) ns
nodes-started m HasSeen s first ns valid count net starts =
    record {
      valid = valid;
      count = count;
      each = λ k n at. node-started m HasSeen s k (first k) n (starts k n at).0;
      none = λ k far. refl;
      few = λ k n at. omega (arith, ap length (starts k n at).0.base.entries);
      net = net;
      room = λ k to n at below.
          let is = starts k n at in
          omega (arith, is.1, is.0.base.port.room to (omega (arith, below, is.0.base.net)));
    }
