use Rattle.std.proofs.Common.{◌≡◌, ◌+◌, ◌*◌, ◌≤◌, ◌++◌, length, take}
use Rattle.std.specs.Prelude.{vec_capacity, vec_len}
use Rattle.std.specs.List.{flat_map}
use Rattle.charlotte_text.specs.Spelling.{byte_text}
use Rattle.charlotte_text.proofs.text.push_coded.Given as goal

abbrev pub invariant-loop-byte : goal.invariant-loop-byte
invariant-loop-byte l = (l.out.items ≡ l.fn.out.items ++ flat_map byte_text (take l.byte-index l.bytes)) × (vec_len l.out + 3 * length l.bytes ≤ vec_capacity l.out + 3 * l.byte-index)
