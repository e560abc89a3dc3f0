use Rattle.std.proofs.Common.{◌≡◌, ◌-◌, length}
use Rattle.lynx_packets.specs.Reading.{numbers_at}
use Rattle.lynx_packets.proofs.Loop.{with_front}
use Rattle.lynx_packets.proofs.values.numbers.Given as goal

abbrev pub invariant-loop : goal.invariant-loop
invariant-loop l = (with_front l.numbers.items (numbers_at (l.count - l.counter) l.rest) ≡ numbers_at l.count l.bytes) × (length l.numbers.items ≡ l.counter)
