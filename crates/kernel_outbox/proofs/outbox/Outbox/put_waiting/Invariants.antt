use Rattle.std.proofs.Common.{◌≡◌, ◌++◌, ◌<◌, ◌≤◌, ℕ, true, false, length}
use Rattle.kernel_net.specs.Ports.{place_of, places_to, put_to}
use Rattle.kernel_outbox.specs.Letters.{MayAllBePut, waiting_to}
use Rattle.kernel_outbox.proofs.outbox.Outbox.put_waiting.Given as goal

abbrev pub invariant-loop-to : goal.invariant-loop-to
invariant-loop-to l = record {
  letters : (q : ℕ) → put_to l.port q ++ waiting_to l.self q ≡ put_to l.initial.port q ++ waiting_to l.initial.self q;
  fewer : (q : ℕ) → length (waiting_to l.self q) ≤ length (waiting_to l.initial.self q);
  may : (q : ℕ) → l.to ≤ q → MayAllBePut (put_to l.port q) (waiting_to l.self q);
  full : (q : ℕ) → q < l.to → 0 < length (waiting_to l.self q) → places_to l.port q ≡ 0;
  into : l.port.into ≡ l.initial.port.into;
  place : place_of l.port ≡ place_of l.initial.port;
  unsent : l.self.unsent ≡ l.initial.self.unsent;
  lists : length l.self.waiting.items ≡ length l.initial.self.waiting.items;
  some : l.some ≡ true → (q : ℕ) × (length (waiting_to l.self q) < length (waiting_to l.initial.self q));
  none : l.some ≡ false → (q : ℕ) → waiting_to l.self q ≡ waiting_to l.initial.self q;
  port : l.some ≡ false → l.port ≡ l.initial.port;
}
