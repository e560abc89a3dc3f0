use Rattle.std.proofs.Common.{◌≡◌, ◌-◌, ◌+◌, ◌≤◌, [], take, drop}
use Rattle.lynx_packets.specs.Spots.{name_at}
use Rattle.lynx_packets.proofs.signature.name.Given as goal

abbrev pub invariant-loop-at : goal.invariant-loop-at
invariant-loop-at l = (name_at (take l.at l.fn.bytes) (l.fn.size - l.at) (drop l.at l.fn.bytes) ≡ name_at [] l.fn.size l.fn.bytes) × (l.at + 5 ≤ l.fn.size)
