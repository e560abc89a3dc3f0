use Rattle.std.proofs.Common.{◌≡◌, ℕ, length}
use Rattle.kernel_named.specs.Named.{GoWithin}
use Rattle.kernel_outbox.specs.Letters.{outbox_to}
use Rattle.kernel_outbox.proofs.outbox.Outbox.let_wait.Given as goal

abbrev pub invariant-loop-to : goal.invariant-loop-to
invariant-loop-to l = record {
  within : GoWithin (length l.self.waiting.items) l.self.unsent.items;
  letters : (q : ℕ) → outbox_to l.self q ≡ outbox_to l.initial.self q;
  lists : length l.self.waiting.items ≡ length l.initial.self.waiting.items;
}

abbrev pub decreases-loop-to : goal.decreases-loop-to
decreases-loop-to l = length l.self.unsent.items
