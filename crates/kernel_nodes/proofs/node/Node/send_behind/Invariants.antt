use Rattle.std.proofs.Common.{◌≡◌, ℕ, ◌++◌, map, length}
use Rattle.kernel_named.specs.Named.{GoWithin}
use Rattle.kernel_step.specs.Progress.{sent_picture}
use Rattle.kernel_world.specs.World.{to_kernel}
use Rattle.kernel_nodes.specs.Nodes.{sent_to}
use Rattle.kernel_nodes.proofs.node.Node.send_behind.Given as goal

abbrev pub invariant-loop-sent : goal.invariant-loop-sent
invariant-loop-sent l = record {
  kernel : l.self.kernel ≡ l.initial.self.kernel;
  within : GoWithin (length l.self.sent.items) l.packets.items;
  lists : length l.self.sent.items ≡ length l.initial.self.sent.items;
  sent : (to : ℕ) → sent_to l.self to ++ to_kernel to (map sent_picture l.packets.items) ≡ sent_to l.initial.self to ++ to_kernel to (map sent_picture l.initial.packets.items);
}

abbrev pub decreases-loop-sent : goal.decreases-loop-sent
decreases-loop-sent l = length l.packets.items
