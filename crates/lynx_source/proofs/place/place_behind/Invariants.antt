-- The place follows the bytes so far.
use Rattle.std.proofs.Common.{◌≡◌, take}
use Rattle.lynx_source.specs.Places.{place_behind}
use Rattle.lynx_source.proofs.place.place_behind.Given as goal

abbrev pub invariant-loop-byte : goal.invariant-loop-byte
invariant-loop-byte l = l.place ≡ place_behind (take l.byte-index l.bytes)
