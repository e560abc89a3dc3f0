use Rattle.std.proofs.Common.{◌≡◌, ◌≤◌, length}
use Rattle.std.specs.VecDeque.{deque_capacity}
use Rattle.packet_queue.specs.Queue.{pictures}
use Rattle.packet_queue.proofs.queue.unpack.Given as goal

abbrev pub invariant-loop-behind : goal.invariant-loop-behind
invariant-loop-behind l = record {
  room : 64 ≤ deque_capacity l.front;
  same : pictures l.front.items l.behind.items ≡ pictures l.initial.front.items l.initial.behind.items;
}

abbrev pub decreases-loop-behind : goal.decreases-loop-behind
decreases-loop-behind l = length l.behind.items
