use Rattle.std.proofs.Common.{◌≡◌, ◌≤◌, ◌-◌, ℕ, length}
use Rattle.kernel_outbox.specs.Letters.{waiting_to}
use Rattle.kernel_outbox.proofs.outbox.Outbox.make_lists.Given as goal

abbrev pub invariant-loop-alloc : goal.invariant-loop-alloc
invariant-loop-alloc l = record {
  waiting : (q : ℕ) → waiting_to l.self q ≡ waiting_to l.initial.self q;
  unsent : l.self.unsent ≡ l.initial.self.unsent;
  lists : length l.self.waiting.items ≤ l.kernels;
}

abbrev pub decreases-loop-alloc : goal.decreases-loop-alloc
decreases-loop-alloc l = l.kernels - length l.self.waiting.items
