use Rattle.std.proofs.Common.{◌≡◌, ◌++◌, ◌<◌, ◌≤◌, ℕ, true, false, length}
use Rattle.kernel_named.specs.Named.{GoWithin}
use Rattle.kernel_net.specs.Ports.{kernels_of, place_of, places_to, put_to}
use Rattle.kernel_outbox.specs.Letters.{MayAllBePut, outbox_to, waiting_to}
use Rattle.kernel_outbox.proofs.outbox.Outbox.put_unsent.Given as goal

abbrev pub invariant-loop-self : goal.invariant-loop-self
invariant-loop-self l = record {
  kernels : l.kernels ≡ kernels_of (place_of l.port);
  letters : (q : ℕ) → put_to l.port q ++ outbox_to l.self q ≡ put_to l.initial.port q ++ outbox_to l.initial.self q;
  fewer : (q : ℕ) → length (outbox_to l.self q) ≤ length (outbox_to l.initial.self q);
  may : (q : ℕ) → MayAllBePut (put_to l.port q) (outbox_to l.self q);
  full : (q : ℕ) → 0 < length (waiting_to l.self q) → places_to l.port q ≡ 0;
  into : l.port.into ≡ l.initial.port.into;
  place : place_of l.port ≡ place_of l.initial.port;
  within : GoWithin l.kernels l.self.unsent.items;
  lists : length l.self.waiting.items ≤ l.kernels;
  some : l.some ≡ true → (q : ℕ) × (length (outbox_to l.self q) < length (outbox_to l.initial.self q));
  none : l.some ≡ false → (q : ℕ) → outbox_to l.self q ≡ outbox_to l.initial.self q;
  port : l.some ≡ false → l.port ≡ l.initial.port;
}

abbrev pub decreases-loop-self : goal.decreases-loop-self
decreases-loop-self l = length l.self.unsent.items
