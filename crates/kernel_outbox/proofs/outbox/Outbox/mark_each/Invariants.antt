use Rattle.std.proofs.Common.{◌≡◌, ◌++◌, ℕ, length}
use Rattle.kernel_outbox.specs.Letters.{markers_to, waiting_to}
use Rattle.kernel_outbox.proofs.outbox.Outbox.mark_each.Given as goal

abbrev pub invariant-loop-to : goal.invariant-loop-to
invariant-loop-to l = record {
  waiting : (q : ℕ) → waiting_to l.self q ≡ waiting_to l.initial.self q ++ markers_to l.to q;
  unsent : l.self.unsent ≡ l.initial.self.unsent;
  lists : length l.self.waiting.items ≡ length l.initial.self.waiting.items;
}
