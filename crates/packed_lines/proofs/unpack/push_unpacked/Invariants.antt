use Rattle.std.proofs.Common.{◌≡◌, ◌+◌, ◌*◌, ◌≤◌, ◌++◌, length}
use Rattle.std.specs.Prelude.{vec_len, vec_capacity}
use Rattle.packed_lines.specs.Packed.{unpacked}
use Rattle.packed_lines.proofs.unpack.push_unpacked.Given as goal

abbrev pub invariant-loop-rest : goal.invariant-loop-rest
invariant-loop-rest l = (l.out.items ++ unpacked l.rest ≡ l.fn.out.items ++ unpacked l.packed) × (vec_len l.out + 3 * length l.rest ≤ vec_capacity l.out)

abbrev pub decreases-loop-rest : goal.decreases-loop-rest
decreases-loop-rest l = length l.rest
